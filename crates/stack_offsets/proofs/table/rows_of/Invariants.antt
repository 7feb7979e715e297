use Rattle.std.proofs.Common.{◌+◌, ◌*◌, ◌<◌, ◌≤◌, length}
use Rattle.std.specs.List.{All, Contains}
use Rattle.flow_graph.specs.Graph.{succs_of}
use Rattle.loop_forest.proofs.IteratorLoops.{IsPassed}
use Rattle.stack_offsets.specs.inner.Rows.{offsets_of, total}
use Rattle.stack_offsets.specs.inner.Settling.{HasUnder, Settling}
use Rattle.stack_offsets.proofs.Search.{Following}
use Rattle.stack_offsets.proofs.table.rows_of.Given as goal

abbrev pub invariant-nodes : goal.invariant-nodes
invariant-nodes l = record {
  settling : Settling l.g l.rows.items (Contains l.waiting.items);
  within : All (λ u. u < length l.g.addrs) l.waiting.items;
}

abbrev pub decreases-nodes : goal.decreases-nodes
decreases-nodes l = 2 * total l.rows.items + length l.waiting.items

abbrev pub invariant-loop-v : goal.invariant-loop-v
invariant-loop-v l = record {
  can : (goal.iterator-loop-v).can_next l.v-iterator;
  ends : (goal.iterator-loop-v).is_finite l.v-iterator;
  following : Following l.g l.rows.items l.waiting.items l.u (offsets_of l.after);
  within : All (λ u. u < length l.g.addrs) l.waiting.items;
  less : 2 * total l.rows.items + length l.waiting.items ≤ 2 * total l.initial.rows.items + length l.initial.waiting.items;
  here : IsPassed (succs_of l.g.edges l.u) l.v-iterator (λ y. HasUnder l.rows.items y (offsets_of l.after));
}
