use Rattle.std.proofs.Common.{refl}
use Rattle.triple_kernel.specs.Tree.{So}
use Rattle.triple_kernel.proofs.Among.{is_among, not_among_more}
use Rattle.held_terms.specs.Held.{fact_of}
use Rattle.held_consequence.proofs.SeekLemmas.{given_next}
use Rattle.held_consequence.proofs.following.is_like_some.Goals as goal

pub loop-fact-preserved : goal.loop-fact-preserved
loop-fact-preserved g c = record {
  none = λ d has alike. not_among_more (fact_of c.args.arena.now) c.args.given.now c.loop-fact.fact-index c.fact-item.result (So d) c.loop-fact-test.true c.fact-item.is
      (λ same. let yes = c.in_ok-like.ensures.answer.1 (d, same, alike) in absurd (cc))
      (λ before. c.loop-fact.invariant.none d before alike) has;
  right = c.in_ok-like.ensures.right;
  found = c.in_ok-like.ensures.found;
  sought = given_next c.args.arena.now c.args.c c.args.given.now c.loop-fact.fact-index c.fact-item.result c.args.known.now c.loop-fact.known c.is_like.new.known c.args.found.now c.loop-fact.found c.is_like.new.found c.args.steps.now c.loop-fact.steps c.is_like.new.steps c.loop-fact-test.true c.fact-item.is c.loop-fact.invariant.sought c.is_like.ensures.sought;
}

pub returns-then-like-clause-answer : goal.returns-then-like-clause-answer
returns-then-like-clause-answer g c = (
  λ e. let x = c.in_ok-like.ensures.answer.0 c.if-like.true in (x.0, is_among (fact_of c.args.arena.now) c.args.given.now c.loop-fact.fact-index c.fact-item.result _ c.loop-fact-test.true c.fact-item.is x.1, x.2),
  λ x. refl,
)

pub returns-in_err-like-clause-sought : goal.returns-in_err-like-clause-sought
returns-in_err-like-clause-sought g c =
    given_next c.args.arena.now c.args.c c.args.given.now c.loop-fact.fact-index c.fact-item.result c.args.known.now c.loop-fact.known c.is_like.new.known c.args.found.now c.loop-fact.found c.is_like.new.found c.args.steps.now c.loop-fact.steps c.is_like.new.steps c.loop-fact-test.true c.fact-item.is c.loop-fact.invariant.sought c.is_like.ensures.sought

pub returns-then-like-clause-sought : goal.returns-then-like-clause-sought
returns-then-like-clause-sought g c =
    given_next c.args.arena.now c.args.c c.args.given.now c.loop-fact.fact-index c.fact-item.result c.args.known.now c.loop-fact.known c.is_like.new.known c.args.found.now c.loop-fact.found c.is_like.new.found c.args.steps.now c.loop-fact.steps c.is_like.new.steps c.loop-fact-test.true c.fact-item.is c.loop-fact.invariant.sought c.is_like.ensures.sought

pub returns-then-like-clause-right : goal.returns-then-like-clause-right
returns-then-like-clause-right g c =
    c.in_ok-like.ensures.right

pub returns-then-like-clause-found : goal.returns-then-like-clause-found
returns-then-like-clause-found g c =
    c.in_ok-like.ensures.found
