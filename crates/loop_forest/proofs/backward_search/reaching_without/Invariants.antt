use Rattle.std.proofs.Common.{◌≡◌, ◌<◌, ◌-◌, ◌≢◌, length, get_or, take}
use Rattle.loop_forest.proofs.QueueSearch.{Exploring, AllNoted}
use Rattle.std.specs.List.{Contains}
use Rattle.flow_graph.specs.Graph.{preds_of}
use Rattle.loop_forest.proofs.IteratorLoops.{IsPassed}
use Rattle.loop_forest.proofs.backward_search.reaching_without.Given as goal

abbrev pub invariant-loop-t : goal.invariant-loop-t
invariant-loop-t l = record { so_far : Exploring l.g l.targets l.h l.search.nodes l.search.next_hop.items 0; noted : AllNoted l.h (take l.t-index l.targets) l.search.nodes }

abbrev pub invariant-nodes : goal.invariant-nodes
invariant-nodes l = record { so_far : Exploring l.g l.targets l.h l.search.nodes l.search.next_hop.items l.i; noted : AllNoted l.h l.targets l.search.nodes }

abbrev pub decreases-nodes : goal.decreases-nodes
decreases-nodes l = length l.g.addrs - l.i

abbrev pub invariant-loop-p : goal.invariant-loop-p
invariant-loop-p l = record {
  can : (goal.iterator-loop-p).can_next l.p-iterator;
  ends : (goal.iterator-loop-p).is_finite l.p-iterator;
  so_far : Exploring l.g l.targets l.h l.search.nodes l.search.next_hop.items l.i;
  noted : AllNoted l.h l.targets l.search.nodes;
  at : l.x ≡ get_or l.search.nodes l.i 0;
  within : l.i < length l.search.nodes;
  here : IsPassed (preds_of l.g.edges l.x) l.p-iterator (λ y. y ≢ l.h → Contains l.search.nodes y);
}
