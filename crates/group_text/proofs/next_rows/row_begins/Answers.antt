use Rattle.group_text.proofs.Joins.{none-begins, row-begins}
use Rattle.group_text.proofs.next_rows.row_begins.Goals as goal

pub returns-then-not-branch-clause-goes_on : goal.returns-then-not-branch-clause-goes_on
returns-then-not-branch-clause-goes_on g c = none-begins g.W.RowStart.goes _ _ _ _ _ c.in_ok-hold.ensures.holds c.if-not-branch.true c.new.ensures c.begins.ensures

pub returns-clause-goes_on : goal.returns-clause-goes_on
returns-clause-goes_on g c = row-begins g.W.RowStart.goes _ _ _ _ _ _ c.in_ok-hold.ensures.holds c.if-not-branch.false c.row.ensures c.new-2.ensures c.begins-2.ensures
