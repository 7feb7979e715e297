use Rattle.std.proofs.Common.{option_map}
use Rattle.group_text.specs.Version.{version_of}
use Rattle.group_text.proofs.Joins.{lost-row}
use Rattle.group_text.proofs.BodyJoins.{passed-on}
use Rattle.proof_text.specs.inner.LineReaders.{turn_over}
use Rattle.proof_text.proofs.LineJoins.{turn-ended, turn-read, turn-failed}
use Rattle.proof_text.proofs.line_turns.read_turn.Goals as goal

pub returns-in_err-row_begins-clause-gives : goal.returns-in_err-row_begins-clause-gives
returns-in_err-row_begins-clause-gives g c = λ before behind rows. lost-row (λ found. option_map (g.W.ReadLines.tree c.args.own.now.ranges) found) (turn_over g.W.ReadLines.readers (version_of c.args.version) c.args.own.now.ranges before) c.in_err-row_begins.field-0.0 c.from_residual.result _ _ c.from_residual.ensures.1

pub returns-in_err-row_begins-clause-lost : goal.returns-in_err-row_begins-clause-lost
returns-in_err-row_begins-clause-lost g c = λ sure. absurd (c.in_err-row_begins.ensures.sure sure)

pub returns-then-branch-clause-gives : goal.returns-then-branch-clause-gives
returns-then-branch-clause-gives g c = λ before behind rows. turn-ended g.W.ReadLines.readers (version_of c.args.version) c.args.own.now.ranges before _ _ c.in_ok-row_begins.ensures.kept _ c.if-branch.true c.in_ok-row_begins.ensures.goes_on

pub returns-in_err-line-clause-gives : goal.returns-in_err-line-clause-gives
returns-in_err-line-clause-gives g c = λ before behind rows. passed-on (λ found. option_map (g.W.ReadLines.tree c.args.own.now.ranges) found) c.in_err-line.field-0.0 c.from_residual-in_err-line.result _ _ (turn_over g.W.ReadLines.readers (version_of c.args.version) c.args.own.now.ranges before) c.from_residual-in_err-line.ensures.1
    (turn-failed g.W.ReadLines.readers (version_of c.args.version) c.args.own.now.ranges before _ _ c.in_ok-row_begins.ensures.kept _ c.if-branch.false c.in_ok-row_begins.ensures.goes_on _ (g.W.ReadLines.tree c.args.own.now.ranges) (λ found. option_map (g.W.ReadLines.tree c.args.own.now.ranges) found) c.in_err-line.field-0.0 (c.in_err-line.ensures.gives before behind rows))

pub returns-clause-gives : goal.returns-clause-gives
returns-clause-gives g c = λ before behind rows. turn-read g.W.ReadLines.readers (version_of c.args.version) c.args.own.now.ranges before _ _ c.in_ok-row_begins.ensures.kept _ c.if-branch.false c.in_ok-row_begins.ensures.goes_on _ (g.W.ReadLines.tree c.args.own.now.ranges c.in_ok-line.line) (c.in_ok-line.ensures.gives before behind rows)
