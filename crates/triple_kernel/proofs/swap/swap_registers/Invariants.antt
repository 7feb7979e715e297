use Rattle.std.proofs.Common.{map, take}
use Rattle.std.specs.List.{AllZip}
use Rattle.sep_assert.specs.Tree.{register_tree}
use Rattle.triple_kernel.specs.Tree.{fact_tree}
use Rattle.triple_kernel.specs.Swap.{SwapRegister}
use Rattle.triple_kernel.proofs.swap.swap_registers.Given as goal

abbrev pub invariant-loop-i : goal.invariant-loop-i
invariant-loop-i l = AllZip (SwapRegister (map fact_tree l.facts)) (map register_tree (take l.i l.a)) (map register_tree (take l.i l.b))
