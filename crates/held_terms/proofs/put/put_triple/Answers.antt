use Rattle.std.proofs.Common.{◌+◌, ◌≤◌, ◌++◌, List, flat_map, map, sym, subst}
use Rattle.triple_kernel.specs.declared.triple.Fact.{Fact}
use Rattle.std.proofs.lemmas.Result.{IfOk-weaker}
use Rattle.triple_kernel.specs.Tree.{fact_tree, triple_tree}
use Rattle.held_terms.proofs.GrowthLemmas.{extends_next}
use Rattle.sep_assert.specs.Tree.{assertion_tree}
use Rattle.held_terms.specs.Terms.{assertion_terms, fact_terms, nodes_of}
use Rattle.held_terms.specs.declared.held.Held.{Held}
use Rattle.held_terms.specs.inner.Put.{AreFactsPut, IsHeldPut}
use Rattle.held_terms.proofs.PutLemmas.{facts_stay, held_put, side_stays}
use Rattle.held_terms.proofs.PutSteps.{both_steps, first_steps}
use Rattle.held_terms.proofs.put.put_triple.Goals as goal

pub returns-clause-put : goal.returns-clause-put
returns-clause-put g c =
    let one = c.put_facts.new.arena in
    let two = c.put_side.new.arena in
    let three = c.put_side-2.new.arena in
    let facts = subst (λ (fs : List Fact). AreFactsPut one c.in_ok-facts.facts (map fact_tree fs)) c.as_slice.ensures c.in_ok-facts.ensures.put in
    let put = held_put three c.in_ok-facts.facts c.in_ok-pre.pre c.in_ok-post.post c.in_ok-code.code _ _ _ _
    (facts_stay one three (extends_next one two three c.put_side.ensures.grows c.put_side-2.ensures.grows) c.in_ok-facts.facts _ facts)
    (side_stays two three c.put_side-2.ensures.grows c.in_ok-pre.pre _ c.in_ok-pre.ensures.put) c.in_ok-code.ensures c.in_ok-post.ensures.put in
    IfOk-weaker c.new.result _ _ (λ h e. subst (λ (q : Held). IsHeldPut three q (triple_tree c.args.t.now)) (sym e) put) c.new.ensures

pub returns-in_err-facts-clause-steps : goal.returns-in_err-facts-clause-steps
returns-in_err-facts-clause-steps g c =
    first_steps c.args.steps.now c.put_facts.new.steps (flat_map fact_terms (map fact_tree c.args.t.now.facts)) (assertion_terms (assertion_tree c.args.t.now.pre) ++ assertion_terms (assertion_tree c.args.t.now.post))
    (subst (λ (fs : List Fact). c.put_facts.new.steps ≤ c.args.steps.now + nodes_of (flat_map fact_terms (map fact_tree fs))) c.as_slice.ensures c.put_facts.ensures.steps)

pub returns-in_err-pre-clause-steps : goal.returns-in_err-pre-clause-steps
returns-in_err-pre-clause-steps g c =
    both_steps c.args.steps.now c.put_facts.new.steps c.put_side.new.steps (flat_map fact_terms (map fact_tree c.args.t.now.facts)) (assertion_terms (assertion_tree c.args.t.now.pre) ++ assertion_terms (assertion_tree c.args.t.now.post))
    (subst (λ (fs : List Fact). c.put_facts.new.steps ≤ c.args.steps.now + nodes_of (flat_map fact_terms (map fact_tree fs))) c.as_slice.ensures c.put_facts.ensures.steps)
    (first_steps c.put_facts.new.steps c.put_side.new.steps (assertion_terms (assertion_tree c.args.t.now.pre)) (assertion_terms (assertion_tree c.args.t.now.post)) c.put_side.ensures.steps)

pub returns-in_err-post-clause-steps : goal.returns-in_err-post-clause-steps
returns-in_err-post-clause-steps g c =
    both_steps c.args.steps.now c.put_facts.new.steps c.put_side-2.new.steps (flat_map fact_terms (map fact_tree c.args.t.now.facts)) (assertion_terms (assertion_tree c.args.t.now.pre) ++ assertion_terms (assertion_tree c.args.t.now.post))
    (subst (λ (fs : List Fact). c.put_facts.new.steps ≤ c.args.steps.now + nodes_of (flat_map fact_terms (map fact_tree fs))) c.as_slice.ensures c.put_facts.ensures.steps)
    (both_steps c.put_facts.new.steps c.put_side.new.steps c.put_side-2.new.steps (assertion_terms (assertion_tree c.args.t.now.pre)) (assertion_terms (assertion_tree c.args.t.now.post)) c.put_side.ensures.steps c.put_side-2.ensures.steps)

pub returns-in_err-code-clause-steps : goal.returns-in_err-code-clause-steps
returns-in_err-code-clause-steps g c =
    both_steps c.args.steps.now c.put_facts.new.steps c.put_side-2.new.steps (flat_map fact_terms (map fact_tree c.args.t.now.facts)) (assertion_terms (assertion_tree c.args.t.now.pre) ++ assertion_terms (assertion_tree c.args.t.now.post))
    (subst (λ (fs : List Fact). c.put_facts.new.steps ≤ c.args.steps.now + nodes_of (flat_map fact_terms (map fact_tree fs))) c.as_slice.ensures c.put_facts.ensures.steps)
    (both_steps c.put_facts.new.steps c.put_side.new.steps c.put_side-2.new.steps (assertion_terms (assertion_tree c.args.t.now.pre)) (assertion_terms (assertion_tree c.args.t.now.post)) c.put_side.ensures.steps c.put_side-2.ensures.steps)

pub returns-clause-steps : goal.returns-clause-steps
returns-clause-steps g c =
    both_steps c.args.steps.now c.put_facts.new.steps c.put_side-2.new.steps (flat_map fact_terms (map fact_tree c.args.t.now.facts)) (assertion_terms (assertion_tree c.args.t.now.pre) ++ assertion_terms (assertion_tree c.args.t.now.post))
    (subst (λ (fs : List Fact). c.put_facts.new.steps ≤ c.args.steps.now + nodes_of (flat_map fact_terms (map fact_tree fs))) c.as_slice.ensures c.put_facts.ensures.steps)
    (both_steps c.put_facts.new.steps c.put_side.new.steps c.put_side-2.new.steps (assertion_terms (assertion_tree c.args.t.now.pre)) (assertion_terms (assertion_tree c.args.t.now.post)) c.put_side.ensures.steps c.put_side-2.ensures.steps)
