use Rattle.rv_decode.proofs.RegisterLemmas.{HaveFound}
use Rattle.code_parts.specs.Groups.{is_register_of}
use Rattle.code_parts.proofs.linked_uses.registers_of_all.Given as goal

abbrev pub invariant-loop-r : goal.invariant-loop-r
invariant-loop-r l = HaveFound (is_register_of l.functions) l.regs l.r
