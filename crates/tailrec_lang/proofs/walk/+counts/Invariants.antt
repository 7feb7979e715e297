use Rattle.std.proofs.Common.{◌≡◌, ◌+◌, drop}
use Rattle.tailrec_lang.specs.Tree.{body_tree}
use Rattle.tailrec_lang.specs.inner.Tree.{arm_trees, end_tree}
use Rattle.tailrec_lang.specs.Eval.{arm_needs, needs}
use Rattle.tailrec_lang.specs.inner.Walk.{steps_need}
use Rattle.tailrec_lang.proofs.Steps.{steps_from}
use Rattle.tailrec_lang.proofs.walk.+counts.Given as goal

abbrev pub invariant-needs_in-loop-step : goal.invariant-needs_in-loop-step
invariant-needs_in-loop-step l = l.count + steps_need (steps_from l.steps l.step-index) + needs (end_tree l.body.end) ≡ needs (body_tree l.body)

abbrev pub invariant-needs_in_arms-loop-arm : goal.invariant-needs_in_arms-loop-arm
invariant-needs_in_arms-loop-arm l = l.count + arm_needs (arm_trees (drop l.arm-index l.arms)) ≡ arm_needs (arm_trees l.arms)
