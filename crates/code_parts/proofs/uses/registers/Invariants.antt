use Rattle.std.specs.List.{list_any}
use Rattle.rv_decode.proofs.RegisterLemmas.{HaveFound}
use Rattle.instr_axioms.specs.Axiom.{is_own}
use Rattle.code_parts.proofs.uses.registers.Given as goal

abbrev pub invariant-loop-r : goal.invariant-loop-r
invariant-loop-r l = HaveFound (λ r. list_any (λ i. is_own i r) l.g.instrs) l.regs l.r
