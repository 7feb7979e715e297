use Rattle.std.proofs.Common.{map, sym, ◌∙◌, arith, List as Items}
use Rattle.mc_text.specs.Reading.{star}
use Rattle.mc_text.specs.inner.Reading.{with_prefix}
use Rattle.mc_text.proofs.Star.{star-pushed, star-ends, star-fails}
use Rattle.tailrec_lang.specs.declared.group.Step.{Step}
use Rattle.tailrec_lang.specs.Tree.{step_tree}
use Rattle.group_text.specs.inner.Reading.{is_step, step_at}
use Rattle.group_text.proofs.StepLaws.{step-shrinks}
use Rattle.group_text.proofs.RowLawsOf.{step-row}
use Rattle.group_text.specs.inner.Rows.{tokens}
use Rattle.group_text.proofs.Joins.{so-init, so-more, so-err, so-ok}
use Rattle.group_text.proofs.bodies.read_steps.Goals as goal

pub steps-init : goal.steps-init
steps-init g c = record { told = so-init step_tree (star is_step step_at) _ c.new-steps.result c.new-steps.ensures; left = omega arith; lends = g.met.R.Rows.lends_nothing _ _ }

pub steps-preserved : goal.steps-preserved
steps-preserved g c = record {
  told = so-more step_tree step_at (star is_step step_at) c.in-Ok.step _ _ _ _ (λ ts. with_prefix (map step_tree c.steps.steps) (star is_step step_at ts)) (λ ts. with_prefix (map step_tree c.push.new.self) (star is_step step_at ts)) c.steps.invariant.told c.in_ok-row_begins.ensures.kept
      (λ p may rest total e h. star-pushed step_tree is_step step_at step-shrinks c.steps.steps c.in-Ok.step c.push.new.self (tokens p) rest total c.in_ok-push-in-Ok.ensures.ok (sym (c.in_ok-row_begins.ensures.goes_on p may) ∙ c.if-branch.true) e h)
      (c.in-Ok.ensures.gives step-row);
  left = omega (arith, c.in-Ok.ensures.left, c.in_ok-row_begins.ensures.left, c.steps.invariant.left);
  lends = g.met.R.Rows.lends_then _ _ _ _ _ _ _ (g.met.R.Rows.lends_then _ _ _ _ _ _ _ c.steps.invariant.lends c.in_ok-row_begins.ensures.lends) c.in-Ok.ensures.lends;
}

pub returns-in-Err-clause-gives : goal.returns-in-Err-clause-gives
returns-in-Err-clause-gives g c = so-err step_tree (λ (steps : Items Step). map step_tree steps) step_at (star is_step step_at) c.in-Err.halt _ _ _ _ (λ ts. with_prefix (map step_tree c.steps.steps) (star is_step step_at ts)) c.steps.invariant.told c.in_ok-row_begins.ensures.kept
    (λ p may bad total e h. star-fails is_step step_at step-shrinks (map step_tree c.steps.steps) (tokens p) bad total (sym (c.in_ok-row_begins.ensures.goes_on p may) ∙ c.if-branch.true) e h)
    (c.in-Err.ensures.gives step-row)

pub returns-clause-gives : goal.returns-clause-gives
returns-clause-gives g c = so-ok (λ (steps : Items Step). map step_tree steps) (star is_step step_at) c.steps.steps _ _ _ (λ ts. with_prefix (map step_tree c.steps.steps) (star is_step step_at ts)) c.steps.invariant.told c.in_ok-row_begins.ensures.kept
    (λ q may total h. star-ends is_step step_at step-shrinks (map step_tree c.steps.steps) (tokens q) total (sym (c.in_ok-row_begins.ensures.goes_on q may) ∙ c.if-branch.false) h)
