use Rattle.std.proofs.Common.{◌≤◌, ◌-◌, length}
use Rattle.loop_forest.specs.inner.Bases.{AreBases}
use Rattle.loop_forest.proofs.cut_tables.base_table.Given as goal

abbrev pub invariant-nodes : goal.invariant-nodes
invariant-nodes l = record { table : AreBases l.g l.loops l.found.items l.n; upto : l.n ≤ length l.g.addrs }

abbrev pub decreases-nodes : goal.decreases-nodes
decreases-nodes l = length l.g.addrs - l.n
