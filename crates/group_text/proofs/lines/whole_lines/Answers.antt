use Rattle.group_text.proofs.Cuts.{lines-to, no-lines}
use Rattle.group_text.proofs.lines.whole_lines.Goals as goal

pub returns-then-text-end-eq10-clause-lines : goal.returns-then-text-end-eq10-clause-lines
returns-then-text-end-eq10-clause-lines c = lines-to c.args.text.now c.back.end _ c.split_at.result.0.now c.back-test.true c.back.invariant.within c.if-text-end-eq10.true c.split_at.ensures.front

pub returns-clause-lines : goal.returns-clause-lines
returns-clause-lines c = no-lines c.args.text.now c.split_at-2.result.0.now c.split_at-2.ensures.front
