use Rattle.std.proofs.Common.{List, Some, ap, map, sym, subst, ◌∙◌}
use Rattle.std.specs.List.{Contains}
use Rattle.std.proofs.lemmas.List.{take_all}
use Rattle.term_arena.proofs.Places.{at_read, map-at}
use Rattle.triple_kernel.specs.Tree.{FactTree}
use Rattle.triple_kernel.proofs.Among.{not_among_more}
use Rattle.held_terms.specs.declared.held.HeldFact.{HeldFact}
use Rattle.held_terms.specs.Held.{fact_of}
use Rattle.held_terms.proofs.way.place_among.Goals as goal

pub returns-then-same_fact-clause-some : goal.returns-then-same_fact-clause-some
returns-then-same_fact-clause-some c =
    map-at (fact_of c.args.arena.now) c.args.facts.now c.loop-place.place c.index-facts-place.result
    (at_read c.args.facts.now c.loop-place.place c.index-facts-place.result c.loop-place-test.true c.index-facts-place.is) ∙ ap (λ (f : FactTree). Some f) (c.same_fact.ensures.0 c.if-same_fact.true)

pub loop-place-preserved : goal.loop-place-preserved
loop-place-preserved c =
    not_among_more (fact_of c.args.arena.now) c.args.facts.now c.loop-place.place c.index-facts-place.result _ c.loop-place-test.true c.index-facts-place.is
    (λ e. let yes = c.same_fact.ensures.1 e in cc) c.loop-place.invariant

pub returns-clause-none : goal.returns-clause-none
returns-clause-none c = λ h.
    c.loop-place.invariant (subst (λ (fs : List HeldFact). Contains (map (fact_of c.args.arena.now) fs) (fact_of c.args.arena.now c.args.fact.now)) (sym (take_all c.loop-place.place c.args.facts.now c.loop-place-test.false)) h)
