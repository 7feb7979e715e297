use Rattle.term_arena.proofs.Places.{map-at}
use Rattle.held_terms.specs.Held.{fact_of}
use Rattle.held_terms.proofs.WayLemmas.{none_indexed}
use Rattle.held_terms.proofs.way.place_of_all.Goals as goal

pub returns-in-Some-clause-some : goal.returns-in-Some-clause-some
returns-in-Some-clause-some c = map-at (fact_of c.args.arena.now) c.args.facts.now c.in-Some.place c.args.fact.now c.in-Some.ensures.there

pub returns-in-None-clause-none : goal.returns-in-None-clause-none
returns-in-None-clause-none c = none_indexed c.args.arena.now c.law_of_nodes.ensures c.args.facts.now c.requires.facts _ c.args.fact.now c.requires.fact c.requires.index c.in-None.ensures.none
