use Rattle.std.proofs.Common.{◌≤◌, ◌-◌, length}
use Rattle.loop_forest.specs.inner.Bases.{ArePlaces}
use Rattle.loop_forest.proofs.cut_tables.places.Given as goal

abbrev pub invariant-nodes : goal.invariant-nodes
invariant-nodes l = record { table : ArePlaces l.g l.base l.found.items l.n; upto : l.n ≤ length l.g.addrs }

abbrev pub decreases-nodes : goal.decreases-nodes
decreases-nodes l = length l.g.addrs - l.n
