use Rattle.std.proofs.Common.{◌≡◌, ℕ, List, subst, sym, ◌∙◌, true≢false, length}
use Rattle.std.specs.List.{Contains}
use Rattle.loop_forest.proofs.NodeTables.{placed_push, placed_same}
use Rattle.loop_forest.proofs.node_set.NodeSet.add.Goals as goal

pub invariant_of-self : goal.invariant_of-self
invariant_of-self c = placed_same _ _ _ c.self.invariant c.make_room.ensures.same

pub invariant_of-self-in_err-push : goal.invariant_of-self-in_err-push
invariant_of-self-in_err-push c = rw c.in_err-push.ensures.items (placed_same _ _ _ c.self.invariant c.make_room.ensures.same)

pub invariant_of-self-2 : goal.invariant_of-self-2
invariant_of-self-2 c =
    let count : c.len-place.result ≡ length c.self.inside.nodes.items = c.len-place.ensures ∙ c.self.inside.nodes.ok.0 in
    let fresh = λ (d : Contains c.self.inside.nodes.items c.args.x). true≢false (sym (c.has.ensures.1 (subst (λ (xs : List ℕ). Contains xs c.args.x) c.self.view_is d)) ∙ c.if-has.false) in
    rw (count, c.in_ok-push.ensures.items)
    (placed_push _ _ c.args.x (placed_same _ _ _ c.self.invariant c.make_room.ensures.same) fresh c.in_ok-make_room.ensures.long)
