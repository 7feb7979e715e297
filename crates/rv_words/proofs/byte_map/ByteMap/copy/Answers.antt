use Rattle.std.proofs.Common.{◌∙◌}
use Rattle.rv_words.specs.inner.Pieces.{bytes_in}
use Rattle.rv_words.proofs.PieceLemmas.{same_map_of}
use Rattle.rv_words.proofs.byte_map.ByteMap.copy.Goals as goal

pub returns : goal.returns
returns c = same_map_of c.in_ok-pieces.pieces.items c.self.inside.pieces.items (c.in_ok-pieces.ensures.bytes ∙ (λ j. bytes_in (c.deref.ensures.value j))) ∙ c.self.view_is
