use Rattle.std.proofs.Common.{take, map}
use Rattle.std.specs.List.{AllByRecursion}
use Rattle.tailrec_lang.specs.Tree.{step_tree}
use Rattle.group_terms.specs.Range.{StepInRange}
use Rattle.group_terms.proofs.range.steps_have_range.Given as goal

abbrev pub invariant-loop-step : goal.invariant-loop-step
invariant-loop-step l = AllByRecursion StepInRange (map step_tree (take l.step-index l.steps))
