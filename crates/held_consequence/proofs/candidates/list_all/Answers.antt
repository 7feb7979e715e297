use Rattle.held_consequence.specs.inner.Classes.{IsFactListed}
use Rattle.held_consequence.proofs.ClassLemmas.{all_listed, all_whole, from_added}
use Rattle.held_consequence.proofs.candidates.list_all.Goals as goal

pub returns-then-not-known-clause-from : goal.returns-then-not-known-clause-from
returns-then-not-known-clause-from c =
    from_added c.args.facts.now c.loop-fact.lists c.list_fact.new.lists c.loop-fact.fact-index c.fact-item.result c.loop-fact-test.true c.fact-item.is c.loop-fact.invariant.from c.in_ok-known.ensures.added

pub loop-fact-preserved : goal.loop-fact-preserved
loop-fact-preserved c =
    record {
      from = from_added c.args.facts.now c.loop-fact.lists c.list_fact.new.lists c.loop-fact.fact-index c.fact-item.result c.loop-fact-test.true c.fact-item.is c.loop-fact.invariant.from c.in_ok-known.ensures.added;
      all = all_listed c.args.classes.now c.loop-fact.lists c.list_fact.new.lists c.args.facts.now c.loop-fact.fact-index c.fact-item.result c.loop-fact-test.true c.fact-item.is c.in_ok-known.ensures.added c.loop-fact.invariant.all (c.in_ok-known.ensures.listed c.if-not-known.false);
    }

pub returns-clause-all : goal.returns-clause-all
returns-clause-all c =
    λ e. all_whole (IsFactListed c.args.classes.now c.loop-fact.lists) c.args.facts.now c.loop-fact.fact-index c.loop-fact-test.false c.loop-fact.invariant.all
