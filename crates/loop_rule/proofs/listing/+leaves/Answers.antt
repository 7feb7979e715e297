use Rattle.std.proofs.Common.{rules, ◌≡◌, ◌++◌, map, min, length, sym, ◌∙◌, arith}
use Rattle.std.proofs.lemmas.List.{append-nil}
use Rattle.tailrec_lang.specs.Tree.{def_tree, group_tree, values_tree}
use Rattle.tailrec_lang.specs.inner.Tree.{arm_trees}
use Rattle.triple_kernel.specs.Tree.{fact_tree}
use Rattle.loop_rule.specs.Tree.{leaf_tree}
use Rattle.loop_rule.specs.Leaves.{arm_leaves}
use Rattle.loop_rule.proofs.LeafLemmas.{arms-end}
use Rattle.loop_rule.proofs.listing.+leaves.Goals as goal

pub add_arm_leaves-returns : goal.add_arm_leaves-returns
add_arm_leaves-returns t c =
    let g = group_tree c.args.g.now in
    let def = def_tree c.args.def.now in
    let v = values_tree c.args.values.now in
    let facts = map fact_tree c.args.facts.now in
    let least : c.min-count.result ≡ min (length c.args.arms.now) (length c.exits_of-exits.result.now) = search rules in
    let none = arms-end g def c.args.callee v c.args.scope.words c.args.scope.mems facts c.exits_of-exits.result.now c.args.arms.now c.loop-i.i (omega (arith, least, c.loop-i-test.false)) in
    sym (append-nil (map leaf_tree c.loop-i.list)) ∙ (λ j. map leaf_tree c.loop-i.list ++ sym none j) ∙ c.loop-i.invariant
    ∙ (λ j. map leaf_tree c.args.list.now ++ arm_leaves g def c.args.callee (c.exits_of-exits.ensures j) 0 v (arm_trees c.args.arms.now) c.args.scope.words c.args.scope.mems facts)
