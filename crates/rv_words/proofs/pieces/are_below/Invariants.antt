use Rattle.rv_words.proofs.LimitLemmas.{BelowFrom}
use Rattle.rv_words.proofs.pieces.are_below.Given as goal

abbrev pub invariant-loop-piece : goal.invariant-loop-piece
invariant-loop-piece l = BelowFrom l.limit l.pieces l.piece-index
