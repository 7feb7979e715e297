use Rattle.std.proofs.Common.{◌≡◌, ◌+◌, ℕ, length, map}
use Rattle.tailrec_lang.specs.Tree.{BodyTree, GroupTree, step_tree, with_steps}
use Rattle.tailrec_lang.specs.WellFormed.{BodyIsWellFormed}
use Rattle.tailrec_lang.specs.Eval.{Meaning, body_ending, variables_of}
use Rattle.tailrec_lang.specs.inner.Walk.{needs_passed, steps_need}
use Rattle.tailrec_lang.proofs.Steps.{steps_from}
use Rattle.tailrec_lang.proofs.walk.take_steps.Given as goal

abbrev pub invariant-loop-step : goal.invariant-loop-step
invariant-loop-step l = record {
  counted : needs_passed l.passed + steps_need (steps_from l.steps l.step-index) ≡ needs_passed l.fn.passed + steps_need (map step_tree l.steps);
  scope : (g : GroupTree) (d : ℕ) (rest : BodyTree) → BodyIsWellFormed g d (with_steps (map step_tree l.steps) rest) (length l.fn.variables.words) (length l.fn.variables.mems)
      → BodyIsWellFormed g d (with_steps (steps_from l.steps l.step-index) rest) (length l.variables.words) (length l.variables.mems);
  ending : (call : Meaning) (d left : ℕ) (rest : BodyTree) → body_ending call d (with_steps (map step_tree l.steps) rest) (variables_of l.fn.variables) (needs_passed l.fn.passed) left
      ≡ body_ending call d (with_steps (steps_from l.steps l.step-index) rest) (variables_of l.variables) (needs_passed l.passed) left;
}
