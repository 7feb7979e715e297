use Rattle.std.proofs.Common.{◌≡◌, take, map}
use Rattle.tailrec_lang.specs.Tree.{step_tree}
use Rattle.group_terms.proofs.copy.copy_steps.Given as goal

abbrev pub invariant-loop-step : goal.invariant-loop-step
invariant-loop-step l = map step_tree l.copies ≡ map step_tree (take l.step-index l.steps)
