use Rattle.mc_text.specs.Reading.{star}
use Rattle.mc_text.specs.inner.Reading.{with_prefix}
use Rattle.group_text.proofs.Joins.{AllSo}
use Rattle.fun_laws.specs.inner.Reading.{is_step, step_at}
use Rattle.fun_laws.proofs.rows.read_steps.Given as goal

-- what was read, in front of what is left to read, is what all is read as
abbrev pub invariant-steps : goal.invariant-steps
invariant-steps g l = AllSo (star is_step step_at) (g.R.Rows.May l.fn.rows l.fn.from) (g.R.Rows.May l.rows l.from) (λ ts. with_prefix l.steps (star is_step step_at ts))

abbrev pub decreases-steps : goal.decreases-steps
decreases-steps g l = g.R.Rows.left l.rows
