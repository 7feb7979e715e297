use Rattle.std.proofs.Common.{All, take}
use Rattle.decompiler.specs.inner.CodeBytes.{HasBytes}
use Rattle.decompiler.proofs.bytes.law_of_each.Given as goal

abbrev pub invariant-loop-piece : goal.invariant-loop-piece
invariant-loop-piece l = All HasBytes (take l.piece-index l.pieces)
