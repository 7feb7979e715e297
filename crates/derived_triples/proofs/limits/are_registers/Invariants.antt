use Rattle.std.proofs.Common.{map, take}
use Rattle.std.specs.List.{AllByRecursion}
use Rattle.held_terms.specs.Held.{register_of}
use Rattle.group_text.specs.TermLimits.{IsWord}
use Rattle.derived_triples.proofs.limits.are_registers.Given as goal

abbrev pub invariant-loop-register : goal.invariant-loop-register
invariant-loop-register l = AllByRecursion (λ r. IsWord r.1) (map (register_of l.arena) (take l.register-index l.registers))
