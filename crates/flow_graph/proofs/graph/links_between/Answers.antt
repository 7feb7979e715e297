use Rattle.std.proofs.Common.{ℕ, ◌-◌, ◌<◌, ◌∙◌, List, length, get_or, ap, subst, arith}
use Rattle.std.specs.List.{Contains}
use Rattle.flow_graph.proofs.Ways.{node_at}
use Rattle.flow_graph.proofs.BuildLemmas.{edges_up, node_targets}
use Rattle.flow_graph.proofs.graph.links_between.Goals as goal

pub add_edges-requires-clause-closed : goal.add_edges-requires-clause-closed
add_edges-requires-clause-closed c = λ b h.
    let of = c.requires.of in
    let l : c.nodes.u - 1 < length c.args.nodes.now = omega (arith, c.nodes.invariant.upto, c.nodes-test.true) in
    let at = c.targets_at.ensures ∙ node_targets of.0 of.1 c.args.nodes.now c.args.numbers.now c.args.instrs.now of.2 (c.nodes.u - 1) c.get.result c.length_of.result _ l c.get.ensures c.length_of.ensures in
    of.2.closed (get_or c.args.nodes.now (c.nodes.u - 1) 0) b (node_at c.args.nodes.now (c.nodes.u - 1) l) (subst (λ (xs : List ℕ). Contains xs b) at h)

pub nodes-preserved : goal.nodes-preserved
nodes-preserved c =
    let e = c.in_ok-add_edges.ensures.edges in
    let l : c.nodes.u - 1 < length c.args.nodes.now = omega (arith, c.nodes.invariant.upto, c.nodes-test.true) in
    record {
      count = ap (λ p. p.0) e ∙ c.nodes.invariant.count;
      upto = omega (arith, c.nodes.invariant.upto);
      few = omega (arith, c.in_ok-add_edges.ensures.grown, c.nodes.invariant.few, c.nodes-test.true);
      edges = λ linked code of. ap (λ p. p.1) e ∙ edges_up linked code c.args.nodes.now c.nodes.u _ c.nodes.links.1 c.nodes-test.true c.nodes.invariant.upto
          (c.targets_at.ensures ∙ node_targets linked code c.args.nodes.now c.args.numbers.now c.args.instrs.now of (c.nodes.u - 1) c.get.result c.length_of.result _ l c.get.ensures c.length_of.ensures) (c.nodes.invariant.edges linked code of);
    }
