use Rattle.std.proofs.Common.{refl, ◌∙◌, arith}
use Rattle.short_text.proofs.Longer.{none-childless, kept-children, none-deep, was-there, follows-here, parts-here}
use Rattle.short_text.proofs.table.Table.put.Goals as goal

pub returns-then-not-has_children : goal.returns-then-not-has_children
returns-then-not-has_children c = (refl, none-childless c.args.self.now _ _ _ c.args.node c.self.invariant c.self.view_is _ _ c.as_slice.ensures c.has_children.ensures c.if-not-has_children.true)

pub returns-then-depth-gt-DEPTH_LIMIT : goal.returns-then-depth-gt-DEPTH_LIMIT
returns-then-depth-gt-DEPTH_LIMIT c = (refl, none-deep c.args.self.now _ _ _ c.args.node c.self.invariant c.self.view_is _ _ c.as_slice-2.ensures c.depth_over-depth.ensures c.if-depth-gt-DEPTH_LIMIT.true)

pub number_in-requires : goal.number_in-requires
number_in-requires c = kept-children c.args.self.now _ _ _ c.args.node c.self.invariant c.self.view_is _ _ c.as_slice.ensures c.has_children.ensures c.if-not-has_children.false

pub invariant_of-self-then-number-next : goal.invariant_of-self-then-number-next
invariant_of-self-then-number-next c = parts-here c.args.self.now _ _ _ c.args.node c.self.invariant c.self.view_is c.requires _ _ c.as_slice.ensures c.has_children.ensures c.if-not-has_children.false
    _ _ c.as_slice-2.ensures c.depth_over-depth.ensures c.if-depth-gt-DEPTH_LIMIT.false _ _ _ c.in-Ok.ensures.added c.in-Ok.ensures.arena c.len-next.ensures (omega (arith, c.if-number-next.true))
    _ _ c.in_ok-push_both.ensures.ok.0 c.in_ok-push_both.ensures.ok.1

pub returns-in-Ok : goal.returns-in-Ok
returns-in-Ok c = follows-here c.args.self.now _ _ _ c.args.node c.self.invariant c.self.view_is c.requires _ _ c.as_slice.ensures c.has_children.ensures c.if-not-has_children.false
    _ _ c.as_slice-2.ensures c.depth_over-depth.ensures c.if-depth-gt-DEPTH_LIMIT.false _ _ _ c.in-Ok.ensures.added c.in-Ok.ensures.arena c.len-next.ensures (omega (arith, c.if-number-next.true))
    _ c.in_ok-push_both.ensures.ok.0

pub returns-in-Ok-2 : goal.returns-in-Ok-2
returns-in-Ok-2 c = (
  c.pop_both.ensures.nodes _ _ c.in_ok-push_both.ensures.ok.0 ∙ c.self.view_is,
  (was-there c.args.self.now _ _ _ c.args.node c.self.invariant c.self.view_is _ _ _ c.in-Ok.ensures.added c.len-next.ensures c.if-number-next.false).1,
)
