use Rattle.group_text.proofs.Joins.{lost-row, none-held, passed-row, stopped-row}
use Rattle.group_text.proofs.next_rows.next_row.Goals as goal

pub returns-in_err-hold-clause-gives : goal.returns-in_err-hold-clause-gives
returns-in_err-hold-clause-gives g c = λ law. lost-row (g.W.ReadRow.reads c.args.what.now).view (g.W.ReadRow.reads c.args.what.now).reader c.in_err-hold.field-0.0 c.from_residual.result _ _ c.from_residual.ensures.1

pub returns-then-not-branch-clause-gives : goal.returns-then-not-branch-clause-gives
returns-then-not-branch-clause-gives g c = λ law. none-held (g.W.ReadRow.reads c.args.what.now) law _ _ _ _ c.in_ok-hold.ensures.kept c.in_ok-hold.ensures.holds c.if-not-branch.true

pub returns-in_err-item-clause-gives : goal.returns-in_err-item-clause-gives
returns-in_err-item-clause-gives g c = λ law. stopped-row (g.W.ReadRow.reads c.args.what.now) law _ _ _ _ c.in_ok-hold.ensures.kept c.in_ok-hold.ensures.holds c.if-not-branch.false
    _ c.row.ensures c.new.result c.read.new.scan c.new.ensures c.in_err-item.field-0.0 c.from_residual-in_err-item.result c.from_residual-in_err-item.ensures.1 c.in_err-item.ensures

pub returns-clause-gives : goal.returns-clause-gives
returns-clause-gives g c = λ law. passed-row (g.W.ReadRow.reads c.args.what.now) law _ _ _ _ c.in_ok-hold.ensures.kept c.in_ok-hold.ensures.holds c.if-not-branch.false
    _ c.row.ensures c.new.result c.read.new.scan c.new.ensures _ c.in_ok-item.item c.pass.ensures.passed c.in_ok-item.ensures
