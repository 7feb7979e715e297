use Rattle.std.proofs.Common.{◌≡◌, ◌++◌, map}
use Rattle.tailrec_lang.specs.Tree.{def_tree, group_tree, values_tree}
use Rattle.triple_kernel.specs.Tree.{fact_tree}
use Rattle.loop_rule.specs.Tree.{leaf_tree}
use Rattle.loop_rule.proofs.LeafLemmas.{arms_from}
use Rattle.loop_rule.proofs.listing.+leaves.Given as goal

abbrev pub invariant-add_arm_leaves-loop-i : goal.invariant-add_arm_leaves-loop-i
invariant-add_arm_leaves-loop-i l =
    map leaf_tree l.list ++ arms_from (group_tree l.g) (def_tree l.def) l.callee (values_tree l.values) l.scope.words l.scope.mems (map fact_tree l.facts) l.exits l.arms l.i
    ≡ map leaf_tree l.fn.list ++ arms_from (group_tree l.g) (def_tree l.def) l.callee (values_tree l.values) l.scope.words l.scope.mems (map fact_tree l.facts) l.exits l.arms 0
