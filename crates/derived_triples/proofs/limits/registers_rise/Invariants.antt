use Rattle.std.proofs.Common.{drop, map}
use Rattle.std.specs.Prelude.{◌↔◌}
use Rattle.tailrec_lang.specs.Registers.{AreRegistersFrom}
use Rattle.derived_triples.specs.inner.Making.{number}
use Rattle.derived_triples.proofs.limits.registers_rise.Given as goal

abbrev pub invariant-loop-register : goal.invariant-loop-register
invariant-loop-register l = AreRegistersFrom l.least (map number (drop l.register-index l.registers)) ↔ AreRegistersFrom 1 (map number l.registers)
