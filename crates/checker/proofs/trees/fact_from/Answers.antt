use Rattle.checker.proofs.TreesLemmas.{gives_steps}
use Rattle.checker.proofs.trees.fact_from.Goals as goal

pub returns-in_err-args-in-Gives-clause-steps : goal.returns-in_err-args-in-Gives-clause-steps
returns-in_err-args-in-Gives-clause-steps g c = gives_steps c.args.arena.now c.args.fact.now _ _ _ _ _ _ _ c.in-Gives.is c.values_from-args.ensures.steps c.values_from-results.ensures.steps

pub returns-in_err-results-in-Gives-clause-steps : goal.returns-in_err-results-in-Gives-clause-steps
returns-in_err-results-in-Gives-clause-steps g c = gives_steps c.args.arena.now c.args.fact.now _ _ _ _ _ _ _ c.in-Gives.is c.values_from-args.ensures.steps c.values_from-results.ensures.steps

pub returns-in_ok-results-in-Gives-clause-steps : goal.returns-in_ok-results-in-Gives-clause-steps
returns-in_ok-results-in-Gives-clause-steps g c = gives_steps c.args.arena.now c.args.fact.now _ _ _ _ _ _ _ c.in-Gives.is c.values_from-args.ensures.steps c.values_from-results.ensures.steps
