use Rattle.std.proofs.Common.{◌≡◌, ℕ, map, Some, ap, ◌∙◌}
use Rattle.tailrec_lang.specs.Tree.{arms_of}
use Rattle.code_parts.specs.Bodies.{fresh, last_at, rest_targets}
use Rattle.code_parts.specs.Kept.{flow_in}
use Rattle.code_parts.proofs.BuiltBodies.{arms_are}
use Rattle.code_parts.proofs.ends.loop_rest_arms.Goals as goal

pub returns : goal.returns
returns c =
    let f = flow_in c.args.flow.now in
    let targets : c.as_slice.result.now ≡ rest_targets f (Some c.args.l) = c.as_slice.ensures ∙ c.in_ok-targets.ensures.are in
    ap arms_of (c.in_ok-arms.ensures ∙ (λ i. map (λ (x : ℕ). last_at f c.args.p x (c.fresh-next.ensures.is i)) (targets i)))
    ∙ arms_are (rest_targets f (Some c.args.l)) (λ x. last_at f c.args.p x (fresh f c.args.place.now.words c.args.place.now.mems))
