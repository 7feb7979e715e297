use Rattle.std.proofs.Common.{◌≤◌, None, map}
use Rattle.mc_text.specs.Reading.{star}
use Rattle.mc_text.specs.inner.Reading.{with_prefix}
use Rattle.tailrec_lang.specs.Tree.{step_tree}
use Rattle.group_text.specs.inner.Reading.{is_step, step_at}
use Rattle.group_text.proofs.Joins.{AllSo}
use Rattle.group_text.proofs.bodies.read_steps.Given as goal

-- what was read, in front of what is left to read, is what all is read as
abbrev pub invariant-steps : goal.invariant-steps
invariant-steps g l = record {
  told : AllSo (star is_step step_at) (g.R.Rows.May l.fn.rows l.fn.from) (g.R.Rows.May l.rows l.from) (λ ts. with_prefix (map step_tree l.steps) (star is_step step_at ts));
  left : g.R.Rows.left l.rows ≤ g.R.Rows.left l.fn.rows;
  lends : g.R.Rows.Lends None l.fn.rows l.fn.from l.rows l.from;
}

abbrev pub decreases-steps : goal.decreases-steps
decreases-steps g l = g.R.Rows.left l.rows
