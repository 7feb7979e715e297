use Rattle.std.proofs.Common.{◌≡◌, drop, map}
use Rattle.group_text.specs.inner.Reading.{registers_rise}
use Rattle.short_text.proofs.sides.numbers_rise.Given as goal

abbrev pub invariant-loop-register : goal.invariant-loop-register
invariant-loop-register l = registers_rise l.least (map (λ r. r.0) (drop l.register-index l.registers)) ≡ registers_rise 1 (map (λ r. r.0) l.registers)
