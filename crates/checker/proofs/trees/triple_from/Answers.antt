use Rattle.checker.proofs.TreesLemmas.{triple_steps}
use Rattle.checker.proofs.trees.triple_from.Goals as goal

pub returns-in_err-facts-clause-steps : goal.returns-in_err-facts-clause-steps
returns-in_err-facts-clause-steps g c = triple_steps c.args.arena.now c.args.h.now _ _ _ _ _ c.as_slice.ensures c.facts_from-facts.ensures.steps c.side_from-pre.ensures.steps c.side_from-post.ensures.steps

pub returns-in_err-pre-clause-steps : goal.returns-in_err-pre-clause-steps
returns-in_err-pre-clause-steps g c = triple_steps c.args.arena.now c.args.h.now _ _ _ _ _ c.as_slice.ensures c.facts_from-facts.ensures.steps c.side_from-pre.ensures.steps c.side_from-post.ensures.steps

pub returns-in_err-code-clause-steps : goal.returns-in_err-code-clause-steps
returns-in_err-code-clause-steps g c = triple_steps c.args.arena.now c.args.h.now _ _ _ _ _ c.as_slice.ensures c.facts_from-facts.ensures.steps c.side_from-pre.ensures.steps c.side_from-post.ensures.steps

pub returns-in_err-post-clause-steps : goal.returns-in_err-post-clause-steps
returns-in_err-post-clause-steps g c = triple_steps c.args.arena.now c.args.h.now _ _ _ _ _ c.as_slice.ensures c.facts_from-facts.ensures.steps c.side_from-pre.ensures.steps c.side_from-post.ensures.steps

pub returns-clause-steps : goal.returns-clause-steps
returns-clause-steps g c = triple_steps c.args.arena.now c.args.h.now _ _ _ _ _ c.as_slice.ensures c.facts_from-facts.ensures.steps c.side_from-pre.ensures.steps c.side_from-post.ensures.steps
