use Rattle.std.proofs.Common.{◌≡◌, ◌++◌, drop, length, map}
use Rattle.tailrec_lang.specs.Tree.{step_tree}
use Rattle.fun_laws.specs.inner.Simplified.{ArePassed, AreSimpleSteps, step_parts}
use Rattle.fun_laws.proofs.simplification.simple_steps.Given as goal

abbrev pub invariant-loop-step : goal.invariant-loop-step
invariant-loop-step l =
    ArePassed step_parts l.step-index l.fn.log l.log (map step_tree l.steps) (map step_tree l.made ++ map step_tree (drop l.step-index l.steps))
    × AreSimpleSteps (map step_tree l.made) × (length l.made ≡ l.step-index)
