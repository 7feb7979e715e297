use Rattle.std.proofs.Common.{◌≡◌, drop}
use Rattle.group_text.specs.inner.Reading.{registers_rise}
use Rattle.group_text.proofs.heads.registers_rise.Given as goal

abbrev pub invariant-loop-register : goal.invariant-loop-register
invariant-loop-register l = registers_rise l.least (drop l.register-index l.registers) ≡ registers_rise 1 l.registers
