use Rattle.group_text.specs.Version.{version_of}
use Rattle.group_text.specs.inner.RowReader.{read_as}
use Rattle.group_text.proofs.Joins.{none-held, passed-row, stopped-row}
use Rattle.proof_text.proofs.line_turns.read_row.Goals as goal

pub returns-then-not-branch-clause-gives : goal.returns-then-not-branch-clause-gives
returns-then-not-branch-clause-gives g c = λ before behind law. none-held (read_as (g.W.ReadLines.tree c.args.own.now.ranges) (g.W.ReadLines.readers.line_at (version_of c.args.version) c.args.own.now.ranges before)) law _ _ _ _ c.in_ok-hold.ensures.kept c.in_ok-hold.ensures.holds c.if-not-branch.true

pub returns-in_err-line-clause-gives : goal.returns-in_err-line-clause-gives
returns-in_err-line-clause-gives g c = λ before behind law. stopped-row (read_as (g.W.ReadLines.tree c.args.own.now.ranges) (g.W.ReadLines.readers.line_at (version_of c.args.version) c.args.own.now.ranges before)) law _ _ _ _ c.in_ok-hold.ensures.kept c.in_ok-hold.ensures.holds c.if-not-branch.false
    _ c.row.ensures c.new.result c.read.new.scan c.new.ensures c.in_err-line.field-0.0 c.from_residual-in_err-line.result c.from_residual-in_err-line.ensures.1 (c.in_err-line.ensures.gives before behind)

pub returns-clause-gives : goal.returns-clause-gives
returns-clause-gives g c = λ before behind law. passed-row (read_as (g.W.ReadLines.tree c.args.own.now.ranges) (g.W.ReadLines.readers.line_at (version_of c.args.version) c.args.own.now.ranges before)) law _ _ _ _ c.in_ok-hold.ensures.kept c.in_ok-hold.ensures.holds c.if-not-branch.false
    _ c.row.ensures c.new.result c.read.new.scan c.new.ensures _ c.in_ok-line.line c.pass.ensures.passed (c.in_ok-line.ensures.gives before behind)
