use Rattle.std.proofs.Common.{◌≡◌, map, take}
use Rattle.rv_words.proofs.PieceLemmas.{block_of}
use Rattle.rv_words.proofs.pieces.copy_all.Given as goal

-- the pieces so far are copied
abbrev pub invariant-loop-piece : goal.invariant-loop-piece
invariant-loop-piece l = map block_of l.copies.items ≡ map block_of (take l.piece-index l.pieces)
