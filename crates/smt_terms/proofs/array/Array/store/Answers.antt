use Rattle.std.proofs.Common.{◌∷◌, [], ap, ◌∙◌}
use Rattle.std.specs.Prelude.{unwrap_or}
use Rattle.std.specs.FinMap.{get}
use Rattle.rv_words.specs.Bytes.{bytes_from, over}
use Rattle.smt_terms.specs.Elements.{element}
use Rattle.smt_terms.proofs.Arrays.{stored-element}
use Rattle.smt_terms.proofs.array.Array.store.Goals as goal

pub returns-clause-bytes : goal.returns-clause-bytes
returns-clause-bytes c k =
    ap (λ m. element m k) c.in_ok-bytes-2.ensures.ok ∙ (λ j. unwrap_or (c.in_ok-place.ensures.ok j k) 0)
    ∙ ap (λ m. unwrap_or (over (bytes_from c.args.i.number (c.args.x.number ∷ [])) (get m) k) 0) (c.in_ok-bytes.ensures ∙ c.deref.ensures)
    ∙ stored-element c.args.x.number c.args.i.number k (get c.args.self.now.bytes.value)
