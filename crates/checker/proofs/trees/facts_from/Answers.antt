use Rattle.triple_kernel.specs.Tree.{fact_tree}
use Rattle.held_terms.specs.Held.{fact_of}
use Rattle.held_terms.specs.Terms.{fact_terms}
use Rattle.held_terms.proofs.PutSteps.{items_left, steps_next, steps_within}
use Rattle.checker.proofs.TreesLemmas.{tree_pushed}
use Rattle.checker.proofs.trees.facts_from.Goals as goal

pub loop-fact-preserved : goal.loop-fact-preserved
loop-fact-preserved g c = record {
  read = tree_pushed fact_tree (fact_of c.args.arena.now) c.loop-fact.trees _ c.in_ok-tree.tree c.in_ok-push.ensures.ok c.args.facts.now c.loop-fact.fact-index c.loop-fact-test.true c.loop-fact.invariant.read c.fact-item.result c.fact-item.is c.in_ok-tree.ensures.fact;
  few = steps_next c.args.steps.now c.loop-fact.steps c.fact_from.new.steps _ _ _ _ c.loop-fact.invariant.few (items_left (fact_of c.args.arena.now) c.args.facts.now c.loop-fact.fact-index c.fact-item.result c.loop-fact-test.true c.fact-item.is fact_terms) c.fact_from.ensures.steps;
}

pub returns-in_err-tree-clause-steps : goal.returns-in_err-tree-clause-steps
returns-in_err-tree-clause-steps g c =
    steps_within c.args.steps.now c.fact_from.new.steps _ _ (steps_next c.args.steps.now c.loop-fact.steps c.fact_from.new.steps _ _ _ _ c.loop-fact.invariant.few (items_left (fact_of c.args.arena.now) c.args.facts.now c.loop-fact.fact-index c.fact-item.result c.loop-fact-test.true c.fact-item.is fact_terms) c.fact_from.ensures.steps)

pub returns-in_err-push-clause-steps : goal.returns-in_err-push-clause-steps
returns-in_err-push-clause-steps g c =
    steps_within c.args.steps.now c.fact_from.new.steps _ _ (steps_next c.args.steps.now c.loop-fact.steps c.fact_from.new.steps _ _ _ _ c.loop-fact.invariant.few (items_left (fact_of c.args.arena.now) c.args.facts.now c.loop-fact.fact-index c.fact-item.result c.loop-fact-test.true c.fact-item.is fact_terms) c.fact_from.ensures.steps)
