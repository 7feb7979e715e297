use Rattle.std.proofs.Common.{◌≡◌, length, map, take}
use Rattle.tailrec_lang.specs.Tree.{BodyTree, DefTree, GroupTree, step_tree, with_steps}
use Rattle.tailrec_lang.proofs.Steps.{steps_from}
use Rattle.triple_kernel.specs.Tree.{fact_tree}
use Rattle.loop_rule.specs.Leaves.{body_leaves}
use Rattle.loop_rule.proofs.listing.add_steps.Given as goal

abbrev pub invariant-loop-step : goal.invariant-loop-step
invariant-loop-step l = record {
  leaves : (g : GroupTree) (def : DefTree) (rest : BodyTree) → body_leaves g def (with_steps (map step_tree l.steps) rest) l.fn.scope.words l.fn.scope.mems (map fact_tree l.fn.path)
      ≡ body_leaves g def (with_steps (steps_from l.steps l.step-index) rest) l.after.words l.after.mems (map fact_tree l.path);
  path : take (length l.fn.path) l.path ≡ l.fn.path;
}
