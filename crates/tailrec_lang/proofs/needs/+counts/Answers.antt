use Rattle.std.proofs.Common.{arith, ap, map}
use Rattle.tailrec_lang.specs.Tree.{step_tree}
use Rattle.tailrec_lang.specs.inner.Walk.{steps_need}
use Rattle.tailrec_lang.proofs.Views.{needs_body}
use Rattle.tailrec_lang.proofs.needs.+counts.Goals as goal

pub checked_needs-loop-step-init : goal.checked_needs-loop-step-init
checked_needs-loop-step-init t c =
    let whole = needs_body c.args.body.now in
    let steps = ap (λ ss. steps_need (map step_tree ss)) c.as_slice-steps.ensures in
    omega (arith, whole, steps)
