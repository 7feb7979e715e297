use Rattle.loop_forest.proofs.NodeTables.{place_found, place_at, place_none}
use Rattle.loop_forest.proofs.node_set.NodeSet.place.Goals as goal

pub returns-clause-found : goal.returns-clause-found
returns-clause-found c = rw (← c.self.view_is) (place_found _ _ c.args.x _ c.self.invariant (rw c.deref.ensures.value at c.place_in.ensures))

pub returns-clause-at : goal.returns-clause-at
returns-clause-at c = rw (← c.self.view_is) (place_at _ _ c.args.x _ c.self.invariant (rw c.deref.ensures.value at c.place_in.ensures))

pub returns-clause-none : goal.returns-clause-none
returns-clause-none c = rw (← c.self.view_is) (place_none _ _ c.args.x _ c.self.invariant (rw c.deref.ensures.value at c.place_in.ensures))
