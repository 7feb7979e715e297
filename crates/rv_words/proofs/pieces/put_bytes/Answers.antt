use Rattle.std.proofs.Common.{length, refl, ◌∙◌, arith}
use Rattle.std.proofs.lemmas.List.{with_items_is}
use Rattle.rv_words.specs.Bytes.{bytes_from, over}
use Rattle.rv_words.specs.inner.Pieces.{bytes_in}
use Rattle.rv_words.proofs.PieceLemmas.{over_zeros}
use Rattle.rv_words.proofs.pieces.put_bytes.Goals as goal

pub returns-clause-ok : goal.returns-clause-ok
returns-clause-ok c =
    let bytes = c.args.bytes.now in
    (λ j. bytes_in (with_items_is c.cover.new.pieces c.write_in.new.pieces (omega arith) j)) ∙ c.write_in.ensures.written
    ∙ (λ j. over (bytes_from c.args.a bytes) (bytes_in (c.deref_mut.ensures.value j))) ∙ (λ j. over (bytes_from c.args.a bytes) (c.in_ok-i.ensures.cleared j))
    ∙ over_zeros c.args.a (length bytes) bytes (bytes_in c.args.pieces.now.items) refl
