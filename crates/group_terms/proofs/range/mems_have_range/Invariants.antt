use Rattle.std.proofs.Common.{take, map}
use Rattle.std.specs.List.{AllByRecursion}
use Rattle.word_terms.specs.Tree.{mem_tree}
use Rattle.word_terms.specs.Scope.{MemInRange}
use Rattle.group_terms.proofs.range.mems_have_range.Given as goal

abbrev pub invariant-loop-m : goal.invariant-loop-m
invariant-loop-m l = AllByRecursion MemInRange (map mem_tree (take l.m-index l.mems))
