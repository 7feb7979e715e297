use Rattle.path_walk.proofs.PartsInOrder.{walked_next}
use Rattle.path_walk.proofs.all_parts.walk_all.Goals as goal

pub loop-part-preserved : goal.loop-part-preserved
loop-part-preserved c = (
  walked_next c.args.version _ c.args.parts.now c.loop-part.part-index _ _ _ _ _ _ c.requires.parts c.law_of_graphs.ensures c.loop-part-test.true c.loop-part.invariant.0 c.in_ok-push.ensures.ok c.in_ok-walked.ensures.def c.in_ok-walked.ensures.lines,
  c.in_ok-walked.ensures.next,
  c.in_ok-walked.ensures.kept c.loop-part.invariant.2,
)
