use Rattle.std.proofs.Common.{◌<◌, ℕ, length, subst, sym}
use Rattle.loop_forest.specs.Forest.{ForestOf, head_of}
use Rattle.flow_graph.proofs.Ways.{node_at}
use Rattle.loop_forest.proofs.forest.Forest.parent.Goals as goal

pub region-requires : goal.region-requires
region-requires c =
    let below = subst (λ (f : ForestOf). c.args.l < length f.heads → head_of f c.args.l < length f.places) c.self.view_is (λ l. c.self.invariant.heads_below _ (node_at _ c.args.l l)) in
    subst (λ (z : ℕ). z < length c.args.self.now.places) (sym c.head.ensures) (below c.requires)
