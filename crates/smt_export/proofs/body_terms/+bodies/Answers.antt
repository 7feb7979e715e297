use Rattle.std.proofs.Common.{◌≡◌, ◌+◌, ◌-◌, ◌<◌, ◌∙◌, length, sym, ap, arith}
use Rattle.tailrec_lang.specs.Tree.{body_tree, exits_at, group_tree, values_tree}
use Rattle.smt_export.specs.Bodies.{body_expr, called}
use Rattle.smt_export.specs.inner.Steps.{arms_from}
use Rattle.smt_export.proofs.BodyTrees.{arm_next}
use Rattle.smt_export.proofs.Fits.{arm_mems_fit, arm_words_fit, steps_fit}
use Rattle.tailrec_lang.proofs.group.Body.TheLaws.{the_size as body_size}
use denote.Param.Weighed.{at_most}
use Rattle.smt_export.proofs.body_terms.+bodies.Goals as goal

pub arms_term-loop-i-preserved : goal.arms_term-loop-i-preserved
arms_term-loop-i-preserved t c =
    let g = group_tree c.args.g.now in
    let call = called c.args.callee (values_tree c.args.values.now) in
    let exits = c.exits_of-exits.result.now in
    let count = c.min-count.result in
    let k = count - 1 - c.loop-i.i in
    let before : count - c.loop-i.i ≡ k + 1 = omega (arith, c.loop-i-test.true) in
    let after : k ≡ count - (c.loop-i.i + 1) = omega (arith, c.loop-i-test.true) in
    let same : exits ≡ exits_at g c.args.callee = c.exits_of-exits.ensures in
    arm_next g c.args.def call c.args.scope.words c.args.scope.mems c.args.told exits c.args.arms.now k c.exit_of-exit.result c.index-arms-k.result c.is_last-last.result _ _ _
    (omega (arith, c.loop-i-test.true, c.min-count.ensures)) (omega (arith, c.loop-i-test.true, c.min-count.ensures)) c.exit_of-exit.ensures c.index-arms-k.is c.is_last-last.ensures
    (c.in_ok-arm.ensures ∙ (λ j. body_expr g c.args.def (body_tree c.index-arms-k.result) (c.arm_scope-inner.ensures.words j) (c.arm_scope-inner.ensures.mems j) c.args.told))
    (c.loop-i.invariant ∙ (λ j. arms_from g c.args.def call (sym same j) c.args.arms.now (before j) c.args.scope.words c.args.scope.mems c.args.told))
    c.in_ok-term-2.ensures
    ∙ (λ j. arms_from g c.args.def call (same j) c.args.arms.now (after j) c.args.scope.words c.args.scope.mems c.args.told)

pub arms_term-body_term-requires : goal.arms_term-body_term-requires
arms_term-body_term-requires t c =
    let g = group_tree c.args.g.now in
    let lt : c.min-count.result - 1 - c.loop-i.i < length c.args.arms.now = omega (arith, c.loop-i-test.true, c.min-count.ensures) in
    let most = at_most body_size c.args.arms.now (c.min-count.result - 1 - c.loop-i.i) c.index-arms-k.result lt in
    let own = ap body_size c.index-arms-k.is in (
      omega (arith, c.decreases, most, own),
      (
        arm_words_fit g c.args.arms.now (c.min-count.result - 1 - c.loop-i.i) c.index-arms-k.result c.exit_of-exit.result c.args.scope.words c.arm_scope-inner.result.words lt c.index-arms-k.is c.arm_scope-inner.ensures.words c.requires.words,
        arm_mems_fit g c.args.arms.now (c.min-count.result - 1 - c.loop-i.i) c.index-arms-k.result c.args.scope.mems c.arm_scope-inner.result.mems lt c.index-arms-k.is c.arm_scope-inner.ensures.mems c.requires.mems,
      ),
    )

pub body_term-steps_around-requires-clause-words : goal.body_term-steps_around-requires-clause-words
body_term-steps_around-requires-clause-words t c = steps_fit (group_tree c.args.g.now) c.args.body.now c.as_slice-steps.result.now c.args.scope.words c.as_slice-steps.ensures c.requires.words

pub body_term-steps_around-requires-clause-mems : goal.body_term-steps_around-requires-clause-mems
body_term-steps_around-requires-clause-mems t c = steps_fit (group_tree c.args.g.now) c.args.body.now c.as_slice-steps.result.now c.args.scope.mems c.as_slice-steps.ensures c.requires.mems
