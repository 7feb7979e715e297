use Rattle.std.proofs.Common.{◌≡◌, ◌-◌}
use Rattle.tailrec_lang.specs.Tree.{group_tree, values_tree, exits_at}
use Rattle.smt_terms.specs.Views.{expr}
use Rattle.smt_export.specs.Bodies.{called}
use Rattle.smt_export.specs.inner.Steps.{arms_from}
use Rattle.smt_export.proofs.body_terms.+bodies.Given as goal

abbrev pub invariant-arms_term-loop-i : goal.invariant-arms_term-loop-i
invariant-arms_term-loop-i l =
    expr l.term ≡ arms_from (group_tree l.g) l.def (called l.callee (values_tree l.values)) (exits_at (group_tree l.g) l.callee) l.arms (l.count - l.i) l.scope.words l.scope.mems l.told
