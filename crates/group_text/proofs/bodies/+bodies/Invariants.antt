use Rattle.std.proofs.Common.{◌+◌, ◌*◌, ◌≤◌, None, map}
use Rattle.mc_text.specs.inner.Reading.{times, with_prefix}
use Rattle.tailrec_lang.specs.Tree.{body_tree}
use Rattle.group_text.specs.inner.Reading.{arm_at, body_at}
use Rattle.group_text.proofs.Joins.{AllSo}
use Rattle.group_text.proofs.bodies.+bodies.Given as goal

abbrev pub decreases-read_body : goal.decreases-read_body
decreases-read_body g l = 6 * l.room

abbrev pub decreases-read_branch : goal.decreases-read_branch
decreases-read_branch g l = 6 * l.room + 1

abbrev pub decreases-read_arm : goal.decreases-read_arm
decreases-read_arm g l = 6 * l.room + 1

abbrev pub decreases-read_arms : goal.decreases-read_arms
decreases-read_arms g l = 6 * l.room + 2

abbrev pub decreases-read_end : goal.decreases-read_end
decreases-read_end g l = 6 * l.room + 4

-- what was read, in front of what is left to read, is what all is read as
abbrev pub invariant-read_arms-arms : goal.invariant-read_arms-arms
invariant-read_arms-arms g l = record {
  told : AllSo (times l.fn.count (arm_at (body_at l.room))) (g.R.Rows.May l.fn.rows l.fn.from) (g.R.Rows.May l.rows l.from) (λ ts. with_prefix (map body_tree l.arms) (times l.left (arm_at (body_at l.room)) ts));
  left : g.R.Rows.left l.rows ≤ g.R.Rows.left l.fn.rows;
  lends : g.R.Rows.Lends None l.fn.rows l.fn.from l.rows l.from;
}

abbrev pub decreases-read_arms-arms : goal.decreases-read_arms-arms
decreases-read_arms-arms g l = l.left
