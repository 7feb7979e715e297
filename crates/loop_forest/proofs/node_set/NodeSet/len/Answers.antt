use Rattle.loop_forest.proofs.NodeTables.{places_differ, places_few}
use Rattle.loop_forest.proofs.node_set.NodeSet.len.Goals as goal

pub returns-clause-different : goal.returns-clause-different
returns-clause-different c = rw (← c.self.view_is) (places_differ _ _ c.self.invariant)

pub returns-clause-few : goal.returns-clause-few
returns-clause-few c = rw (← c.self.view_is) (places_few _ _ c.self.invariant)
