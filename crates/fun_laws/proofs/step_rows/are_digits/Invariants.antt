use Rattle.std.proofs.Common.{◌≡◌, drop}
use Rattle.fun_laws.specs.inner.Reading.{are_digits}
use Rattle.fun_laws.proofs.step_rows.are_digits.Given as goal

abbrev pub invariant-loop-byte : goal.invariant-loop-byte
invariant-loop-byte l = are_digits (drop l.byte-index l.bytes) ≡ are_digits l.bytes
