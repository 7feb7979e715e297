use Rattle.std.proofs.Common.{◌-◌, ◌≤◌, None, length, map}
use Rattle.mc_text.specs.Reading.{many}
use Rattle.mc_text.specs.inner.Reading.{with_prefix}
use Rattle.tailrec_lang.specs.Tree.{def_tree}
use Rattle.group_text.specs.Limits.{def_limit}
use Rattle.group_text.specs.inner.Reading.{is_def, def_at}
use Rattle.group_text.proofs.Joins.{AllSo}
use Rattle.group_text.proofs.group.read_defs.Given as goal

-- what was read, in front of what is left to read, is what all is read as
abbrev pub invariant-defs : goal.invariant-defs
invariant-defs g l = record {
  told : AllSo (many def_limit is_def def_at) (g.R.Rows.May l.fn.rows l.fn.from) (g.R.Rows.May l.rows l.from) (λ ts. with_prefix (map def_tree l.defs) (many (def_limit - length l.defs) is_def def_at ts));
  few : length l.defs ≤ def_limit;
  left : g.R.Rows.left l.rows ≤ g.R.Rows.left l.fn.rows;
  lends : g.R.Rows.Lends None l.fn.rows l.fn.from l.rows l.from;
}

abbrev pub decreases-defs : goal.decreases-defs
decreases-defs g l = g.R.Rows.left l.rows
