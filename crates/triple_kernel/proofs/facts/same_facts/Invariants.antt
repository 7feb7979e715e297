use Rattle.std.proofs.Common.{◌≡◌, take, map}
use Rattle.triple_kernel.specs.Tree.{fact_tree}
use Rattle.triple_kernel.proofs.facts.same_facts.Given as goal

abbrev pub invariant-loop-i : goal.invariant-loop-i
invariant-loop-i l = map fact_tree (take l.i l.a) ≡ map fact_tree (take l.i l.b)
