use Rattle.std.proofs.Common.{◌≡◌, ◌+◌, drop}
use Rattle.tailrec_lang.specs.Tree.{body_tree}
use Rattle.tailrec_lang.specs.inner.Tree.{arm_trees, end_tree}
use Rattle.tailrec_lang.specs.Eval.{arm_needs, needs}
use Rattle.tailrec_lang.specs.inner.Walk.{steps_need}
use Rattle.tailrec_lang.proofs.Steps.{steps_from}
use Rattle.tailrec_lang.proofs.needs.+counts.Given as goal

abbrev pub invariant-checked_needs-loop-step : goal.invariant-checked_needs-loop-step
invariant-checked_needs-loop-step l = l.count + steps_need (steps_from l.steps l.step-index) + needs (end_tree l.body.end) ≡ needs (body_tree l.body)

abbrev pub invariant-checked_needs_in_arms-loop-arm : goal.invariant-checked_needs_in_arms-loop-arm
invariant-checked_needs_in_arms-loop-arm l = l.count + arm_needs (arm_trees (drop l.arm-index l.arms)) ≡ arm_needs (arm_trees l.arms)
