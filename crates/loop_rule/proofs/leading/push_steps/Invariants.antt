use Rattle.std.proofs.Common.{◌≡◌, length, map, take, []}
use Rattle.tailrec_lang.specs.Tree.{BodyTree, DefTree, GroupTree, step_tree, with_steps}
use Rattle.tailrec_lang.proofs.Steps.{steps_from}
use Rattle.loop_rule.specs.Leaves.{body_leaves}
use Rattle.loop_rule.specs.Judge.{Went}
use Rattle.loop_rule.proofs.leading.push_steps.Given as goal

abbrev pub invariant-loop-step : goal.invariant-loop-step
invariant-loop-step g l = record {
  leaves : (group : GroupTree) (def : DefTree) (rest : BodyTree) → body_leaves group def (with_steps (map step_tree l.steps) rest) l.fn.scope.words l.fn.scope.mems (g.J.JudgeLeaves.judge.way l.fn.judge)
      ≡ body_leaves group def (with_steps (steps_from l.steps l.step-index) rest) l.after.words l.after.mems (g.J.JudgeLeaves.judge.way l.judge);
  way : take (length (g.J.JudgeLeaves.judge.way l.fn.judge)) (g.J.JudgeLeaves.judge.way l.judge) ≡ g.J.JudgeLeaves.judge.way l.fn.judge;
  went : Went g.J.JudgeLeaves.judge [] l.fn.judge l.judge;
}
