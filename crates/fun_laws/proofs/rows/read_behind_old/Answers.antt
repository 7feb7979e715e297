use Rattle.std.proofs.Common.{map, List as Items}
use Rattle.mc_text.specs.Reading.{star}
use Rattle.tailrec_lang.specs.declared.group.Def.{Def}
use Rattle.tailrec_lang.specs.Tree.{def_tree}
use Rattle.group_text.proofs.Joins.{ok-with}
use Rattle.group_text.proofs.BodyJoins.{pair-first, pair-second, passed-on}
use Rattle.fun_laws.specs.declared.step.Rw.{Rw}
use Rattle.fun_laws.specs.inner.Reading.{behind_old, is_step, result_at, step_at}
use Rattle.fun_laws.specs.inner.Views.{rest_view}
use Rattle.fun_laws.proofs.rows.read_behind_old.Goals as goal

pub returns-in_err-steps : goal.returns-in_err-steps
returns-in_err-steps g c = passed-on rest_view c.in_err-steps.field-0.0 c.from_residual.result _ _ behind_old c.from_residual.ensures.1
    (pair-first (λ (steps : Items Rw). steps) rest_view c.in_err-steps.field-0.0 _ _ (star is_step step_at) result_at c.in_err-steps.ensures)

pub returns-in_err-result : goal.returns-in_err-result
returns-in_err-result g c = passed-on rest_view c.in_err-result.field-0.0 c.from_residual-in_err-result.result _ _ behind_old c.from_residual-in_err-result.ensures.1
    (pair-second (λ (defs : Items Def). map def_tree defs) rest_view c.in_err-result.field-0.0 _ _ _ (star is_step step_at) result_at c.in_ok-steps.steps c.in_ok-steps.ensures c.in_err-result.ensures)

pub returns : goal.returns
returns g c = ok-with (star is_step step_at) (λ _. result_at) _ _ c.in_ok-steps.steps (map def_tree c.in_ok-result.result) _ c.in_ok-steps.ensures c.in_ok-result.ensures
