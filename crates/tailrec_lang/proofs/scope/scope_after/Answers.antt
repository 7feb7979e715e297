use Rattle.std.proofs.Common.{refl, ap, sym, subst, ◌∙◌}
use Rattle.tailrec_lang.specs.Tree.{step_tree}
use Rattle.tailrec_lang.specs.WellFormed.{words_after, mems_after}
use Rattle.tailrec_lang.specs.inner.WellFormed.{StepsInScope, words_after_all, mems_after_all}
use Rattle.tailrec_lang.proofs.Steps.{steps_from-step, steps_from-end}
use Rattle.tailrec_lang.proofs.Counts.{counts_as}
use Rattle.tailrec_lang.proofs.scope.scope_after.Goals as goal

pub loop-step-init : goal.loop-step-init
loop-step-init c = λ w m counts. (w, m, counts, (λ h. h, λ h. h), refl, refl)

pub returns-then-not-is_step_counted-clause-none : goal.returns-then-not-is_step_counted-clause-none
returns-then-not-is_step_counted-clause-none c = λ w m counts h.
    let now = c.loop-step.invariant w m counts in
    let list = steps_from-step c.args.steps.now c.loop-step.step-index c.step-item.result c.loop-step-test.true c.step-item.is in
    let all = subst (λ ss. StepsInScope ss now.0 now.1) list (now.3.0 h) in
    let yields = (c.is_step_counted.ensures now.0 now.1 now.2).1 all.0 in
    cc

pub loop-step-preserved : goal.loop-step-preserved
loop-step-preserved c = λ w m counts.
    let now = c.loop-step.invariant w m counts in
    let s = step_tree c.step-item.result in
    let list = steps_from-step c.args.steps.now c.loop-step.step-index c.step-item.result c.loop-step-test.true c.step-item.is in
    let here = (c.is_step_counted.ensures now.0 now.1 now.2).0 c.if-not-is_step_counted.false in (
      words_after s now.0,
      mems_after s now.1,
      c.next_scope-after.ensures now.0 now.1 now.2,
      (
        λ h. (subst (λ ss. StepsInScope ss now.0 now.1) list (now.3.0 h)).1,
        λ h. now.3.1 (subst (λ ss. StepsInScope ss now.0 now.1) (sym list) (here, h)),
      ),
      now.4 ∙ ap (λ ss. words_after_all ss now.0) list,
      now.5 ∙ ap (λ ss. mems_after_all ss now.1) list,
    )

pub returns-clause-some : goal.returns-clause-some
returns-clause-some c = λ w m counts.
    let now = c.loop-step.invariant w m counts in
    let over = steps_from-end c.args.steps.now c.loop-step.step-index c.loop-step-test.false in (
      now.3.1 (subst (λ ss. StepsInScope ss now.0 now.1) (sym over) tt),
      counts_as c.loop-step.after now.0 now.1 _ _ now.2 (sym (now.4 ∙ ap (λ ss. words_after_all ss now.0) over)) (sym (now.5 ∙ ap (λ ss. mems_after_all ss now.1) over)),
    )
