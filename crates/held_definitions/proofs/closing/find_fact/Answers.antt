use Rattle.std.proofs.Common.{◌≡◌, Some, map, refl}
use Rattle.std.specs.Prelude.{slice_get}
use Rattle.term_arena.proofs.Places.{at_read, map-at}
use Rattle.triple_kernel.proofs.Among.{is_among}
use Rattle.held_terms.specs.Held.{fact_of}
use Rattle.held_definitions.proofs.closing.find_fact.Goals as goal

pub returns-in_default-clause-no : goal.returns-in_default-clause-no
returns-in_default-clause-no c = λ not among.
    let f = fact_of c.args.arena.now in
    c.in_default.ensures.none (among.each (f c.index-facts-fact.result) (is_among f c.args.facts.now c.args.fact c.index-facts-fact.result _ c.requires.low c.index-facts-fact.is refl))

pub returns-clause-yes : goal.returns-clause-yes
returns-clause-yes c = λ yes rest found.
    let f = fact_of c.args.arena.now in
    let here : slice_get (map f c.args.facts.now) c.args.fact ≡ Some (f c.index-facts-fact.result) =
    map-at f c.args.facts.now c.args.fact c.index-facts-fact.result (at_read c.args.facts.now c.args.fact c.index-facts-fact.result c.requires.low c.index-facts-fact.is) in
    c.in_ok-note.ensures (map f c.args.way.now) (map f c.args.facts.now) (f c.index-facts-fact.result) rest here c.in-Some.ensures.some found
