use Rattle.std.proofs.Common.{◌≡◌, ap, sym, subst, ◌∙◌, List as Items, []}
use Rattle.mc_text.specs.Reading.{Reader, star}
use Rattle.mc_text.specs.inner.Reading.{with_prefix}
use Rattle.mc_text.proofs.Star.{star-more, star-ends, star-fails}
use Rattle.group_text.specs.inner.Rows.{RowPositions, tokens}
use Rattle.group_text.proofs.Joins.{AllSo, so-begun, so-more, so-err, so-ok}
use Rattle.fun_laws.specs.declared.step.Rw.{Rw}
use Rattle.fun_laws.specs.inner.Reading.{is_step, step_at}
use Rattle.fun_laws.proofs.CertLaws.{step-shrinks}
use Rattle.fun_laws.proofs.RowLaws.{step-row}
use Rattle.fun_laws.proofs.rows.read_steps.Goals as goal

begun : {Y : Type 0} (r : Reader (Items Y)) (old : RowPositions) (ys : Items Y) → ys ≡ [] → AllSo r old old (λ ts. with_prefix ys (r ts))
begun {Y} r old ys e = subst (λ (v : Items Y). AllSo r old old (λ ts. with_prefix v (r ts))) (sym e) (so-begun r old)

pub steps-init : goal.steps-init
steps-init g c = begun (star is_step step_at) _ c.new-steps.result c.new-steps.ensures

pub steps-preserved : goal.steps-preserved
steps-preserved g c =
    so-more (λ (r : Rw). r) step_at (star is_step step_at) c.in-Ok.step _ _ _ _ (λ ts. with_prefix c.steps.steps (star is_step step_at ts)) (λ ts. with_prefix c.push.new.self (star is_step step_at ts)) c.steps.invariant c.in_ok-row_begins.ensures.kept
    (λ p may rest total e h. ap (λ (front : Items Rw). with_prefix front (star is_step step_at rest)) c.in_ok-push-in-Ok.ensures.ok
    ∙ star-more is_step step_at step-shrinks c.steps.steps (tokens p) c.in-Ok.step rest total (sym (c.in_ok-row_begins.ensures.goes_on p may) ∙ c.if-branch.true) e h)
    (c.in-Ok.ensures.gives step-row)

pub returns-in-Err : goal.returns-in-Err
returns-in-Err g c = so-err (λ (r : Rw). r) (λ (rs : Items Rw). rs) step_at (star is_step step_at) c.in-Err.halt _ _ _ _ (λ ts. with_prefix c.steps.steps (star is_step step_at ts)) c.steps.invariant c.in_ok-row_begins.ensures.kept
    (λ p may bad total e h. star-fails is_step step_at step-shrinks c.steps.steps (tokens p) bad total (sym (c.in_ok-row_begins.ensures.goes_on p may) ∙ c.if-branch.true) e h)
    (c.in-Err.ensures.gives step-row)

pub returns : goal.returns
returns g c = so-ok (λ (rs : Items Rw). rs) (star is_step step_at) c.steps.steps _ _ _ (λ ts. with_prefix c.steps.steps (star is_step step_at ts)) c.steps.invariant c.in_ok-row_begins.ensures.kept
    (λ q may total h. star-ends is_step step_at step-shrinks c.steps.steps (tokens q) total (sym (c.in_ok-row_begins.ensures.goes_on q may) ∙ c.if-branch.false) h)
