use Rattle.std.proofs.Common.{map, take}
use Rattle.triple_kernel.specs.Tree.{fact_tree}
use Rattle.triple_kernel.specs.Rules.{AreAmongOrFollow}
use Rattle.triple_kernel.proofs.following.are_among_or_follow.Given as goal

abbrev pub invariant-loop-fact : goal.invariant-loop-fact
invariant-loop-fact l = AreAmongOrFollow (map fact_tree (take l.fact-index l.facts)) (map fact_tree l.others)
