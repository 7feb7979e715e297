use Rattle.loop_forest.proofs.WalkSteps.{end_iff}
use Rattle.loop_forest.proofs.cut_tables.is_end_of.Goals as goal

pub returns-else-n-l : goal.returns-else-n-l
returns-else-n-l c = rw (← c.as_slice.ensures) (end_iff c.as_slice.result.now c.args.n c.args.l.now.body.head c.contains.result c.if-n-l.false c.contains.ensures.cases)
