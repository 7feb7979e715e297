use Rattle.held_consequence.specs.inner.Classes.{IsAgreed}
use Rattle.held_consequence.proofs.ClassLemmas.{all_more, all_whole}
use Rattle.held_consequence.proofs.candidates.are_agreed.Goals as goal

pub loop-fact-preserved : goal.loop-fact-preserved
loop-fact-preserved c =
    all_more (IsAgreed c.args.classes.now) c.args.facts.now c.loop-fact.fact-index c.fact-item.result c.loop-fact-test.true c.fact-item.is c.loop-fact.invariant (c.is_agreed.ensures c.if-not-is_agreed.false)

pub returns : goal.returns
returns c =
    λ e. all_whole (IsAgreed c.args.classes.now) c.args.facts.now c.loop-fact.fact-index c.loop-fact-test.false c.loop-fact.invariant
