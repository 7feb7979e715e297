use Rattle.std.proofs.Common.{ℕ, ◌+◌, ◌-◌, ◌%◌, ◌<◌, length}
use Rattle.flow_graph.specs.Graph.{HasEdge}
use Rattle.loop_forest.specs.Cuts.{StepsSinceCut}
use Rattle.loop_forest.specs.inner.Bases.{IsMarked}
use Rattle.loop_forest.specs.inner.DepthFirst.{mark_of, number_of}
use Rattle.loop_forest.proofs.cuts.steps_since_cut.Given as goal

abbrev pub invariant-back : goal.invariant-back
invariant-back l = record {
  within : l.at < length l.g.addrs;
  few : l.steps < 32;
  onward : (k : ℕ) → StepsSinceCut (HasEdge l.g) (IsMarked l.base) l.at k → StepsSinceCut (HasEdge l.g) (IsMarked l.base) l.n ((k + l.steps) % 32);
}

abbrev pub decreases-back : goal.decreases-back
decreases-back l = length l.g.addrs - number_of (mark_of l.marks l.at)
