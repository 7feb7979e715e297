use Rattle.std.proofs.Common.{◌≡◌, ℕ, suc, ◌+◌, refl, ap, ◌∙◌, arith}
use Rattle.word_terms.specs.Tree.{Var}
use Rattle.code_parts.specs.Bodies.{current, fresh, with_pc}
use Rattle.code_parts.specs.Kept.{flow_in}
use Rattle.code_parts.proofs.BuiltBodies.{left_alone}
use Rattle.code_parts.proofs.ends.returning_arm.Goals as goal

pub returns : goal.returns
returns c =
    let w : ℕ = c.args.place.now.words in
    let next : w + 1 ≡ suc w = omega arith in
    let place = c.fresh-next.ensures.is ∙ (λ i. fresh (flow_in c.args.flow.now) (next i) c.args.place.now.mems) in
    left_alone _ 0 c.in_ok-values-2.values _ c.new.ensures refl
    (c.in_ok-values-2.ensures ∙ ap (with_pc (Var w)) (c.in_ok-values.ensures ∙ ap (current (flow_in c.args.flow.now)) place))
