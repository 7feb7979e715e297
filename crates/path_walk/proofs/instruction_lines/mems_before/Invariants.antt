use Rattle.std.proofs.Common.{◌≡◌, map, take}
use Rattle.word_terms.specs.Tree.{MemVar, mem_tree}
use Rattle.code_parts.specs.VariableMaps.{place_of}
use Rattle.path_walk.proofs.instruction_lines.mems_before.Given as goal

abbrev pub invariant-loop-p : goal.invariant-loop-p
invariant-loop-p l = map mem_tree l.before ≡ map (λ p. MemVar ((place_of l.place).memory p)) (take l.p-index l.mems)
