use Rattle.std.proofs.Common.{map, take}
use Rattle.std.specs.List.{AllZip}
use Rattle.word_terms.specs.Tree.{mem_tree}
use Rattle.triple_kernel.specs.Tree.{fact_tree}
use Rattle.triple_kernel.specs.Swap.{SwapMem}
use Rattle.triple_kernel.proofs.swap.swap_mems.Given as goal

abbrev pub invariant-loop-i : goal.invariant-loop-i
invariant-loop-i l = AllZip (SwapMem (map fact_tree l.facts)) (map mem_tree (take l.i l.a)) (map mem_tree (take l.i l.b))
