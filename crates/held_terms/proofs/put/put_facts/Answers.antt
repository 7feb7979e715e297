use Rattle.held_terms.specs.Held.{IsFactAt, fact_of}
use Rattle.triple_kernel.specs.Tree.{fact_tree}
use Rattle.held_terms.proofs.GrowthLemmas.{extends_next}
use Rattle.held_terms.specs.Terms.{fact_terms, nodes_of}
use Rattle.held_terms.proofs.PutLemmas.{facts_stay, put_next}
use Rattle.held_terms.proofs.PutOrder.{items-then}
use Rattle.held_terms.proofs.PutSteps.{items_left, steps_next, steps_within}
use Rattle.held_terms.proofs.put.put_facts.Goals as goal

pub loop-fact-preserved : goal.loop-fact-preserved
loop-fact-preserved g c =
    let xs = c.args.facts.now in
    let i = c.loop-fact.fact-index in
    let before = c.loop-fact.arena in
    let now = c.put_fact.new.arena in
    record {
      grows = extends_next c.args.arena.now before now c.loop-fact.invariant.grows c.put_fact.ensures.grows;
      put = put_next (IsFactAt now) (fact_of now) fact_tree c.loop-fact.numbers _ xs i c.fact-item.result c.in_ok-k.k c.loop-fact-test.true c.fact-item.is c.in_ok-push.ensures.ok
          (facts_stay before now c.put_fact.ensures.grows c.loop-fact.numbers _ c.loop-fact.invariant.put) c.in_ok-k.ensures.put;
      order = items-then fact_tree fact_terms c.args.arena.now xs i c.fact-item.result before now c.loop-fact-test.true c.fact-item.is c.loop-fact.invariant.order c.in_ok-k.ensures.order;
      few = steps_next c.args.steps.now c.loop-fact.steps c.put_fact.new.steps (nodes_of (fact_terms (fact_tree c.fact-item.result))) _ _ _ c.loop-fact.invariant.few (items_left fact_tree c.args.facts.now c.loop-fact.fact-index c.fact-item.result c.loop-fact-test.true c.fact-item.is fact_terms) c.put_fact.ensures.steps;
    }

pub returns-in_err-k-clause-steps : goal.returns-in_err-k-clause-steps
returns-in_err-k-clause-steps g c =
    steps_within c.args.steps.now c.put_fact.new.steps _ _
    (steps_next c.args.steps.now c.loop-fact.steps c.put_fact.new.steps (nodes_of (fact_terms (fact_tree c.fact-item.result))) _ _ _ c.loop-fact.invariant.few (items_left fact_tree c.args.facts.now c.loop-fact.fact-index c.fact-item.result c.loop-fact-test.true c.fact-item.is fact_terms) c.put_fact.ensures.steps)

pub returns-in_err-push-clause-steps : goal.returns-in_err-push-clause-steps
returns-in_err-push-clause-steps g c =
    steps_within c.args.steps.now c.put_fact.new.steps _ _
    (steps_next c.args.steps.now c.loop-fact.steps c.put_fact.new.steps (nodes_of (fact_terms (fact_tree c.fact-item.result))) _ _ _ c.loop-fact.invariant.few (items_left fact_tree c.args.facts.now c.loop-fact.fact-index c.fact-item.result c.loop-fact-test.true c.fact-item.is fact_terms) c.put_fact.ensures.steps)
