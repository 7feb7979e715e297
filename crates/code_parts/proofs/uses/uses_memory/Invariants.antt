use Rattle.std.proofs.Common.{◌≡◌, false, take}
use Rattle.std.specs.List.{list_any}
use Rattle.instr_axioms.specs.Terms.{has_memory}
use Rattle.code_parts.proofs.uses.uses_memory.Given as goal

abbrev pub invariant-loop-n : goal.invariant-loop-n
invariant-loop-n l = list_any has_memory (take l.n l.g.instrs) ≡ false
