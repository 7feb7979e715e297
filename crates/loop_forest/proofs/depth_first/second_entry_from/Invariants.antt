use Rattle.flow_graph.specs.Graph.{succs_of}
use Rattle.loop_forest.specs.inner.DepthFirst.{IsDone}
use Rattle.loop_forest.proofs.IteratorLoops.{IsPassed}
use Rattle.loop_forest.proofs.depth_first.second_entry_from.Given as goal

abbrev pub invariant-loop-v : goal.invariant-loop-v
invariant-loop-v l = record {
  can : (goal.iterator-loop-v).can_next l.v-iterator;
  ends : (goal.iterator-loop-v).is_finite l.v-iterator;
  passed : IsPassed (succs_of l.g.edges l.u) l.v-iterator (λ x. IsDone l.g l.entry l.marks l.count l.u x);
}
