use Rattle.path_walk.proofs.MissingFacts.{missing_more}
use Rattle.path_walk.proofs.compose.missing.Goals as goal

pub loop-fact-preserved : goal.loop-fact-preserved
loop-fact-preserved c = missing_more _ c.args.facts.now c.loop-fact.fact-index _ _ _ c.loop-fact-test.true c.fact-item.is c.loop-fact.invariant c.in_ok-add_missing.ensures
