use Rattle.std.proofs.Common.{arith, ap, map}
use Rattle.tailrec_lang.specs.Tree.{step_tree}
use Rattle.tailrec_lang.specs.inner.Walk.{steps_need}
use Rattle.tailrec_lang.proofs.Steps.{needs-step}
use Rattle.tailrec_lang.proofs.Views.{needs_body}
use Rattle.tailrec_lang.proofs.walk.+counts.Goals as goal

pub needs_in-loop-step-init : goal.needs_in-loop-step-init
needs_in-loop-step-init t c =
    let whole = needs_body c.args.body.now in
    let steps = ap (λ ss. steps_need (map step_tree ss)) c.as_slice-steps.ensures in
    omega (arith, whole, steps)

pub needs_in-overflow_add-count : goal.needs_in-overflow_add-count
needs_in-overflow_add-count t c =
    let step = needs-step c.as_slice-steps.result.now c.loop-step.step-index c.step-item.result c.loop-step-test.true c.step-item.is in
    omega (arith, step, c.requires)

pub needs_in-loop-step-preserved : goal.needs_in-loop-step-preserved
needs_in-loop-step-preserved t c =
    let step = needs-step c.as_slice-steps.result.now c.loop-step.step-index c.step-item.result c.loop-step-test.true c.step-item.is in
    omega (arith, step)
