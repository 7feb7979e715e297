use Rattle.std.proofs.Common.{◌≡◌, false, take}
use Rattle.std.specs.List.{list_any}
use Rattle.instr_axioms.specs.Axiom.{is_own}
use Rattle.code_parts.proofs.uses.is_used.Given as goal

abbrev pub invariant-loop-n : goal.invariant-loop-n
invariant-loop-n l = list_any (λ i. is_own i l.r) (take l.n l.g.instrs) ≡ false
