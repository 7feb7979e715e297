use Rattle.mc_text.proofs.HexDigits.{IsWriting}
use Rattle.mc_text.proofs.digits.hex_digits.Given as goal

abbrev pub invariant-loop-start : goal.invariant-loop-start
invariant-loop-start l = IsWriting l.n l.rest l.start l.into

abbrev pub decreases-loop-start : goal.decreases-loop-start
decreases-loop-start l = l.start
