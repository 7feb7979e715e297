use Rattle.std.proofs.Common.{◌≡◌, map}
use Rattle.std.specs.List.{range_with_len}
use Rattle.word_terms.specs.Tree.{MemVar, mem_tree}
use Rattle.code_parts.specs.VariableMaps.{place_of}
use Rattle.code_parts.proofs.variables.current_mems.Given as goal

abbrev pub invariant-loop-q : goal.invariant-loop-q
invariant-loop-q l = map mem_tree l.mems ≡ map (λ q. MemVar ((place_of l.place).memory q)) (range_with_len 0 l.q)
