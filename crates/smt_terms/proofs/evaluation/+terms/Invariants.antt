use Rattle.std.proofs.Common.{◌≡◌, ◌+◌, ◌*◌, map}
use Rattle.smt_terms.specs.Expression.{exprs}
use Rattle.smt_terms.specs.Views.{expr, fun_tree}
use Rattle.smt_terms.specs.inner.Finding.{script_weight, weight, weights}
use Rattle.smt_terms.proofs.TermLists.{AllLeft}
use Rattle.smt_terms.proofs.evaluation.+terms.Given as goal

abbrev pub decreases-call : goal.decreases-call
decreases-call l = 4 * (script_weight (map fun_tree l.before.now) + weight (expr l.fun.now.body)) + 1

abbrev pub decreases-term : goal.decreases-term
decreases-term l = 4 * (script_weight (map fun_tree l.funs.now) + weight (expr l.tree.now))

abbrev pub decreases-atom : goal.decreases-atom
decreases-atom l = 4 * script_weight (map fun_tree l.funs.now) + 2

abbrev pub decreases-node : goal.decreases-node
decreases-node l = 4 * (script_weight (map fun_tree l.funs.now) + weights (exprs (map expr l.items.now))) + 3

abbrev pub decreases-application : goal.decreases-application
decreases-application l = 4 * script_weight (map fun_tree l.funs.now) + 2

abbrev pub decreases-binding : goal.decreases-binding
decreases-binding l = 4 * (script_weight (map fun_tree l.funs.now) + weights (exprs (map expr l.parts.now))) + 2

abbrev pub decreases-terms : goal.decreases-terms
decreases-terms l = 4 * (script_weight (map fun_tree l.funs.now) + weights (exprs (map expr l.trees.now))) + 2

abbrev pub invariant-terms-loop-tree : goal.invariant-terms-loop-tree
invariant-terms-loop-tree l = record {
  told : AllLeft (map fun_tree l.funs) l.fn.scope l.trees l.tree-index l.values;
  kept : l.scope ≡ l.fn.scope;
}
