use Rattle.std.proofs.Common.{map, take}
use Rattle.triple_kernel.specs.Tree.{fact_tree}
use Rattle.triple_kernel.specs.Rules.{AreAmong}
use Rattle.triple_kernel.proofs.facts.are_among.Given as goal

abbrev pub invariant-loop-fact : goal.invariant-loop-fact
invariant-loop-fact l = AreAmong (map fact_tree (take l.fact-index l.facts)) (map fact_tree l.others)
