use Rattle.std.proofs.Common.{◌≡◌, take, map}
use Rattle.triple_kernel.specs.Tree.{fact_tree}
use Rattle.triple_kernel.proofs.copy.copy_facts.Given as goal

abbrev pub invariant-loop-fact : goal.invariant-loop-fact
invariant-loop-fact l = map fact_tree l.copies ≡ map fact_tree (take l.fact-index l.facts)
