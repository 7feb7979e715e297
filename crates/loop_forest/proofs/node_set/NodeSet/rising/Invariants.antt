use Rattle.loop_forest.proofs.NodeTables.{RisesTo}
use Rattle.loop_forest.proofs.node_set.NodeSet.rising.Given as goal

abbrev pub invariant-loop-n : goal.invariant-loop-n
invariant-loop-n l = RisesTo l.self l.found.items l.n
