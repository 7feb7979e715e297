use Rattle.std.proofs.Common.{◌∙◌, subst, sym}
use Rattle.std.specs.FinMap.{get}
use Rattle.rv_words.specs.Bytes.{IsMemory}
use Rattle.rv_words.proofs.MemoryLemmas.{kept-memory}
use Rattle.rv_words.proofs.PieceLemmas.{get-map_of}
use Rattle.rv_words.proofs.byte_map.ByteMap.law_of_values.Goals as goal

pub returns : goal.returns
returns c = subst IsMemory (sym (get-map_of c.self.inside.pieces.items) ∙ (λ j. get (c.self.view_is j))) (kept-memory c.self.inside.pieces.items c.self.invariant)
