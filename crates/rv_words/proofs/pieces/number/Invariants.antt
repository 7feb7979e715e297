use Rattle.rv_words.proofs.PieceLemmas.{IsNumberFrom}
use Rattle.rv_words.proofs.pieces.number.Given as goal

abbrev pub invariant-loop-left : goal.invariant-loop-left
invariant-loop-left l = IsNumberFrom l.bytes l.left l.number

abbrev pub decreases-loop-left : goal.decreases-loop-left
decreases-loop-left l = l.left
