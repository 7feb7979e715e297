use Rattle.rv_words.proofs.LimitLemmas.{BelowTo}
use Rattle.rv_words.proofs.pieces.bytes_below.Given as goal

abbrev pub invariant-loop-byte : goal.invariant-loop-byte
invariant-loop-byte l = BelowTo l.limit l.bytes l.byte-index
