use Rattle.std.proofs.Common.{◌≡◌, ◌≤◌, ◌+◌, ◌*◌, length, drop, Bool}
use Rattle.rv_words.specs.Bytes.{Bytes}
use Rattle.flow_graph.specs.Flow.{next}
use Rattle.flow_graph.specs.Graph.{edges_from}
use Rattle.flow_graph.specs.inner.Building.{AreOf}
use Rattle.flow_graph.proofs.graph.links_between.Given as goal

abbrev pub invariant-nodes : goal.invariant-nodes
invariant-nodes l = record {
  count : l.links.0 ≡ length l.nodes;
  upto : l.u ≤ length l.nodes;
  few : length l.links.1 + 2 * l.u ≤ 2 * length l.nodes;
  edges : (linked : Bool) (code : Bytes) → AreOf linked code l.nodes l.numbers l.instrs → l.links.1 ≡ edges_from (next linked code) l.nodes l.u (drop l.u l.nodes);
}

abbrev pub decreases-nodes : goal.decreases-nodes
decreases-nodes l = l.u
