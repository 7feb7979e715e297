use Rattle.smt_terms.proofs.ReadNumerals.{ReadWrapped}
use Rattle.smt_terms.proofs.numeral.numeral_wrapped.Given as goal

abbrev pub invariant-loop-byte : goal.invariant-loop-byte
invariant-loop-byte l = ReadWrapped l.text l.byte-index l.number
