use Rattle.std.proofs.Common.{map, refl, ◌⊎◌, arith}
use Rattle.std.specs.List.{Contains}
use Rattle.triple_kernel.specs.Tree.{FactTree}
use Rattle.triple_kernel.specs.Rules.{Follows}
use Rattle.triple_kernel.proofs.Among.{is_among, among_more}
use Rattle.held_terms.specs.Held.{fact_of}
use Rattle.held_consequence.specs.inner.Following.{HasBothFacts}
use Rattle.held_consequence.proofs.SeekLemmas.{after, facts_next, few_after}
use Rattle.held_consequence.proofs.following.are_among_or_follow.Goals as goal

pub loop-fact-preserved : goal.loop-fact-preserved
loop-fact-preserved g c =
    let f = fact_of c.args.arena.now in
    let Known = λ (t : FactTree). Contains (map f c.args.others.now) t ⊎ Follows (map f c.args.others.now) t in
    record {
      hold = record { each = among_more f Known c.args.facts.now c.loop-fact.fact-index c.fact-item.result c.loop-fact-test.true c.fact-item.is c.loop-fact.invariant.hold.each (c.in_ok-holds.ensures.answer.0 c.if-not-holds.false) };
      right = c.in_ok-holds.ensures.right;
      found = c.in_ok-holds.ensures.found;
      sought = facts_next c.args.arena.now c.args.facts.now c.args.others.now c.loop-fact.fact-index c.fact-item.result c.loop-fact.known c.is_among_or_follows.new.known c.loop-fact.found c.is_among_or_follows.new.found c.classify.new.steps c.loop-fact.steps c.is_among_or_follows.new.steps c.loop-fact-test.true c.fact-item.is c.loop-fact.invariant.sought c.is_among_or_follows.ensures.sought;
    }

pub returns-then-not-holds-clause-answer : goal.returns-then-not-holds-clause-answer
returns-then-not-holds-clause-answer g c = (
  λ e. absurd (cc),
  λ all.
      let f = fact_of c.args.arena.now in
      let yes = c.in_ok-holds.ensures.answer.1 (all.each (f c.fact-item.result) (is_among f c.args.facts.now c.loop-fact.fact-index c.fact-item.result _ c.loop-fact-test.true c.fact-item.is refl)) in
      absurd (cc),
)

pub returns-in_err-holds-clause-steps : goal.returns-in_err-holds-clause-steps
returns-in_err-holds-clause-steps g c =
    λ ts one two. few_after c.args.arena.now (HasBothFacts c.args.arena.now c.args.facts.now c.args.others.now) ts c.is_among_or_follows.new.known c.is_among_or_follows.new.found c.args.steps.now c.classify.new.steps c.is_among_or_follows.new.steps c.law_of_nodes.ensures (one, two) (after c.args.arena.now c.args.facts.now c.as_slice.result.now c.args.others.now c.as_slice.ensures ts c.args.steps.now c.classify.new.steps c.classify.ensures.steps one two)
    (facts_next c.args.arena.now c.args.facts.now c.args.others.now c.loop-fact.fact-index c.fact-item.result c.loop-fact.known c.is_among_or_follows.new.known c.loop-fact.found c.is_among_or_follows.new.found c.classify.new.steps c.loop-fact.steps c.is_among_or_follows.new.steps c.loop-fact-test.true c.fact-item.is c.loop-fact.invariant.sought c.is_among_or_follows.ensures.sought)

pub returns-then-not-holds-clause-steps : goal.returns-then-not-holds-clause-steps
returns-then-not-holds-clause-steps g c =
    λ ts one two. few_after c.args.arena.now (HasBothFacts c.args.arena.now c.args.facts.now c.args.others.now) ts c.is_among_or_follows.new.known c.is_among_or_follows.new.found c.args.steps.now c.classify.new.steps c.is_among_or_follows.new.steps c.law_of_nodes.ensures (one, two) (after c.args.arena.now c.args.facts.now c.as_slice.result.now c.args.others.now c.as_slice.ensures ts c.args.steps.now c.classify.new.steps c.classify.ensures.steps one two)
    (facts_next c.args.arena.now c.args.facts.now c.args.others.now c.loop-fact.fact-index c.fact-item.result c.loop-fact.known c.is_among_or_follows.new.known c.loop-fact.found c.is_among_or_follows.new.found c.classify.new.steps c.loop-fact.steps c.is_among_or_follows.new.steps c.loop-fact-test.true c.fact-item.is c.loop-fact.invariant.sought c.is_among_or_follows.ensures.sought)

pub returns-clause-steps : goal.returns-clause-steps
returns-clause-steps g c =
    λ ts one two. few_after c.args.arena.now (HasBothFacts c.args.arena.now c.args.facts.now c.args.others.now) ts c.loop-fact.known c.loop-fact.found c.args.steps.now c.classify.new.steps c.loop-fact.steps c.law_of_nodes.ensures (one, two) (after c.args.arena.now c.args.facts.now c.as_slice.result.now c.args.others.now c.as_slice.ensures ts c.args.steps.now c.classify.new.steps c.classify.ensures.steps one two) c.loop-fact.invariant.sought

pub returns-in_err-candidates-clause-steps : goal.returns-in_err-candidates-clause-steps
returns-in_err-candidates-clause-steps g c = λ ts one two.
    let le = after c.args.arena.now c.args.facts.now c.as_slice.result.now c.args.others.now c.as_slice.ensures ts c.args.steps.now c.classify.new.steps c.classify.ensures.steps one two in
    omega (arith, le)
