use Rattle.std.proofs.Common.{[], map, refl}
use Rattle.held_terms.specs.Held.{fact_of, triple_of}
use Rattle.held_definitions.specs.inner.Asked.{AreFound}
use Rattle.held_definitions.proofs.AskedLemmas.{found_among, found_over}
use Rattle.held_definitions.proofs.closing.has_facts.Goals as goal

pub returns-clause-answer : goal.returns-clause-answer
returns-clause-answer c =
    let f = fact_of c.args.arena.now in
    let found : AreFound c.take.new.self.stamps (map f c.args.way.now) (map f c.args.p.now.facts) c.find_facts.new.places [] =
    found_over c.take.new.self.stamps c.args.arena.now c.index.new.self c.args.way.now c.as_slice-facts.result.now c.args.p.now.facts c.find_facts.new.places c.index.ensures c.as_slice-facts.ensures (c.in_ok-find_facts.ensures.yes c.if-not-branch.false) in
    (λ yes. found_among c.take.new.self.stamps (map f c.args.way.now) (map f c.args.p.now.facts) c.find_facts.new.places found, λ among. refl)

pub returns-clause-asked : goal.returns-clause-asked
returns-clause-asked c =
    let f = fact_of c.args.arena.now in
    let found : AreFound c.take.new.self.stamps (map f c.args.way.now) (map f c.args.p.now.facts) c.find_facts.new.places [] =
    found_over c.take.new.self.stamps c.args.arena.now c.index.new.self c.args.way.now c.as_slice-facts.result.now c.args.p.now.facts c.find_facts.new.places c.index.ensures c.as_slice-facts.ensures (c.in_ok-find_facts.ensures.yes c.if-not-branch.false) in
    record { each = λ d is begins a. c.keep.ensures d (map f c.args.way.now) (triple_of c.args.arena.now c.args.p.now) is begins found (c.take.ensures.asked d (map f c.args.way.now) a) }
