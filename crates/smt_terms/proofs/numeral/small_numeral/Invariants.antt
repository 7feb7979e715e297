use Rattle.smt_terms.proofs.ReadNumerals.{ReadSmall}
use Rattle.smt_terms.proofs.numeral.small_numeral.Given as goal

abbrev pub invariant-loop-byte : goal.invariant-loop-byte
invariant-loop-byte l = ReadSmall l.text l.byte-index l.number
