use Rattle.std.proofs.Common.{List, drop, map, sym, ◌∙◌, ◌≡◌, length, subst, arith}
use Rattle.triple_kernel.specs.declared.triple.Fact.{Fact}
use Rattle.triple_kernel.specs.Tree.{fact_tree}
use Rattle.held_terms.specs.declared.held.HeldFact.{HeldFact}
use Rattle.held_terms.specs.inner.Put.{AreFactsPut}
use Rattle.held_definitions.specs.inner.Leaves.{AreFirstOf}
use Rattle.held_definitions.proofs.LeafLemmas.{all_put, first_all, first_few, first_still}
use Rattle.held_definitions.proofs.LeafSteps.{last_steps}
use Rattle.held_definitions.proofs.closing.put_way.Goals as goal

pub from_place-requires : goal.from_place-requires
from_place-requires g c =
    let few = first_few c.args.arena.now c.args.put.now c.args.way.now c.requires in
    let is = c.len.ensures in
    omega (arith, few, is)

pub returns-clause-all : goal.returns-clause-all
returns-clause-all g c =
    let now = c.put_facts.new.arena in
    let last : c.from_place.result.now ≡ drop (length c.args.put.now) c.args.way.now = c.from_place.ensures ∙ (λ i. drop (c.len.ensures i) c.args.way.now) in
    all_put c.args.arena.now now c.args.put.now c.in_ok-more.more c.append.new.self c.args.way.now c.put_facts.ensures.grows c.requires
    (subst (λ (fs : List Fact). AreFactsPut now c.in_ok-more.more (map fact_tree fs)) last c.in_ok-more.ensures.put) c.in_ok-append.ensures.ok

pub returns-clause-first : goal.returns-clause-first
returns-clause-first g c =
    let now = c.put_facts.new.arena in
    let last : c.from_place.result.now ≡ drop (length c.args.put.now) c.args.way.now = c.from_place.ensures ∙ (λ i. drop (c.len.ensures i) c.args.way.now) in
    first_all now c.append.new.self (map fact_tree c.args.way.now)
    (all_put c.args.arena.now now c.args.put.now c.in_ok-more.more c.append.new.self c.args.way.now c.put_facts.ensures.grows c.requires
    (subst (λ (fs : List Fact). AreFactsPut now c.in_ok-more.more (map fact_tree fs)) last c.in_ok-more.ensures.put) c.in_ok-append.ensures.ok)

pub returns-in_err-more-clause-first : goal.returns-in_err-more-clause-first
returns-in_err-more-clause-first g c = first_still c.args.arena.now c.put_facts.new.arena c.args.put.now (map fact_tree c.args.way.now) c.put_facts.ensures.grows c.requires

pub returns-in_err-append-clause-first : goal.returns-in_err-append-clause-first
returns-in_err-append-clause-first g c =
    subst (λ (fs : List HeldFact). AreFirstOf c.put_facts.new.arena fs (map fact_tree c.args.way.now)) (sym c.in_err-append.ensures.err)
    (first_still c.args.arena.now c.put_facts.new.arena c.args.put.now (map fact_tree c.args.way.now) c.put_facts.ensures.grows c.requires)

pub returns-clause-steps : goal.returns-clause-steps
returns-clause-steps g c = last_steps c.len.result c.args.way.now c.from_place.result.now c.args.steps.now c.put_facts.new.steps c.from_place.ensures c.put_facts.ensures.steps

pub returns-in_err-more-clause-steps : goal.returns-in_err-more-clause-steps
returns-in_err-more-clause-steps g c = last_steps c.len.result c.args.way.now c.from_place.result.now c.args.steps.now c.put_facts.new.steps c.from_place.ensures c.put_facts.ensures.steps

pub returns-in_err-append-clause-steps : goal.returns-in_err-append-clause-steps
returns-in_err-append-clause-steps g c = last_steps c.len.result c.args.way.now c.from_place.result.now c.args.steps.now c.put_facts.new.steps c.from_place.ensures c.put_facts.ensures.steps
