use Rattle.std.proofs.Common.{◌≡◌, ◌++◌, drop}
use Rattle.fun_laws.specs.inner.Reading.{numbers}
use Rattle.fun_laws.proofs.step_rows.numbers.Given as goal

abbrev pub invariant-loop-digit : goal.invariant-loop-digit
invariant-loop-digit l = l.ks ++ numbers (drop l.digit-index l.digits) ≡ numbers l.digits
