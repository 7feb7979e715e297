use Rattle.tailrec_lang.specs.Tree.{def_tree, group_tree, values_tree}
use Rattle.loop_rule.proofs.LeafLemmas.{arms_from}
use Rattle.loop_rule.proofs.WalkLemmas.{LeftFrom}
use Rattle.loop_rule.proofs.leading.+leaves.Given as goal

abbrev pub invariant-cite_for_arms-loop-i : goal.invariant-cite_for_arms-loop-i
invariant-cite_for_arms-loop-i g l =
    LeftFrom g.J.JudgeLeaves.judge l.c
    (arms_from (group_tree l.c.group.now) (def_tree l.c.def.now) l.callee (values_tree l.values) l.scope.words l.scope.mems (g.J.JudgeLeaves.judge.way l.fn.judge) l.exits l.arms 0) l.fn.place l.fn.judge
    (arms_from (group_tree l.c.group.now) (def_tree l.c.def.now) l.callee (values_tree l.values) l.scope.words l.scope.mems (g.J.JudgeLeaves.judge.way l.fn.judge) l.exits l.arms l.i) l.next l.judge
