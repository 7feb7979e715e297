use Rattle.std.proofs.Common.{map, take}
use Rattle.std.specs.List.{Contains}
use Rattle.triple_kernel.specs.Tree.{fact_tree}
use Rattle.triple_kernel.proofs.facts.is_among.Given as goal

abbrev pub invariant-loop-other : goal.invariant-loop-other
invariant-loop-other l = Contains (map fact_tree (take l.other-index l.others)) (fact_tree l.fact) → ⊥
