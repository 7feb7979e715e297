use Rattle.std.proofs.Common.{◌↔◌, IsTrue, sym, subst, ◌∙◌}
use Rattle.std.specs.FinMap.{get}
use Rattle.rv_words.specs.Bytes.{Bytes}
use Rattle.rv_words.specs.Limits.{AreBytesBelow}
use Rattle.rv_words.specs.inner.Pieces.{bytes_in}
use Rattle.rv_words.proofs.PieceLemmas.{get-map_of}
use Rattle.rv_words.proofs.byte_map.ByteMap.is_below.Goals as goal

pub returns : goal.returns
returns c =
    subst (λ (m : Bytes). IsTrue c.are_below.result ↔ AreBytesBelow c.args.limit m)
    ((λ j. bytes_in (c.deref.ensures.value j)) ∙ sym (get-map_of c.self.inside.pieces.items) ∙ (λ j. get (c.self.view_is j))) c.are_below.ensures
