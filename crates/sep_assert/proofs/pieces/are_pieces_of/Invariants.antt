use Rattle.std.proofs.Common.{take}
use Rattle.std.specs.Prelude.{All}
use Rattle.rv_words.specs.Bytes.{over}
use Rattle.rv_words.specs.Ranges.{range_bytes}
use Rattle.sep_assert.proofs.PieceTests.{LiesIn}
use Rattle.sep_assert.proofs.pieces.are_pieces_of.Given as goal

abbrev pub invariant-loop-range : goal.invariant-loop-range
invariant-loop-range l = All (LiesIn (over (range_bytes l.b) (range_bytes l.c))) (take l.range-index l.a)
