use Rattle.std.proofs.Common.{ℕ, subst, sym, ◌∙◌, true≢false, ◌∷◌, []}
use Rattle.std.specs.List.{Contains}
use Rattle.loop_forest.proofs.WalkSteps.{decides_on, follow_step, follows_end, found_beside}
use Rattle.loop_forest.proofs.second_entry.walk_from.Goals as goal
use Rattle.flow_graph.proofs.Ways.{node_at}

pub walk-preserved : goal.walk-preserved
walk-preserved c =
    let out = λ (d : Contains c.args.cycle.now c.walk.x). true≢false (sym ((decides_on c.args.cycle.now c.walk.x c.contains.result c.contains.ensures.cases).1 d) ∙ c.walk-test.true) in
    let s = follow_step c.args.g.now c.args.u c.args.h c.args.search.now.nodes c.args.search.now.next_hop.items c.args.cycle.now _ c.walk.walk.items c.walk.x c.walk.at c.index-at.result.now c.get-x-in-walk.result
    c.requires.found c.requires.on c.walk.invariant.within c.walk.invariant.x_is c.index-at.ensures c.get-x-in-walk.ensures out c.walk.invariant.follows in
    record { follows = rw c.in_ok-push.ensures.items s.2; within = s.1; x_is = c.get-x-in-walk.ensures }

pub returns : goal.returns
returns c = rw c.in_ok-push-2.ensures.items
    (follows_end c.args.g.now c.args.cycle.now _ c.args.h c.walk.walk.items c.walk.x c.walk.invariant.follows
    ((decides_on c.args.cycle.now c.walk.x c.contains.result c.contains.ensures.cases).0 c.walk-test.false)
    (found_beside c.args.g.now (c.args.u ∷ []) c.args.h c.args.search.now.nodes c.args.search.now.next_hop.items c.requires.found c.walk.x
    (subst (λ (z : ℕ). Contains c.args.search.now.nodes z) (sym c.walk.invariant.x_is) (node_at c.args.search.now.nodes c.walk.at c.walk.invariant.within))))
