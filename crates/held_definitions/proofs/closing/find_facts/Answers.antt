use Rattle.std.proofs.Common.{◌+◌, arith, drop, map}
use Rattle.std.proofs.lemmas.List.{length-map}
use Rattle.held_terms.specs.Held.{fact_of}
use Rattle.held_definitions.proofs.AskedLemmas.{found_next, next_low}
use Rattle.held_definitions.proofs.closing.find_facts.Goals as goal

pub find_fact-requires-clause-low : goal.find_fact-requires-clause-low
find_fact-requires-clause-low c =
    let f = fact_of c.args.arena.now in
    let low = next_low c.args.asked.now.stamps (map f c.args.way.now) (map f c.args.facts.now) c.loop-fact.places c.args.left.now c.loop-fact.fact-index c.loop-fact-test.true c.loop-fact.invariant in
    let long = length-map c.args.facts.now f in
    omega (arith, low, long)

pub loop-fact-preserved : goal.loop-fact-preserved
loop-fact-preserved c =
    let f = fact_of c.args.arena.now in
    c.in_ok-find_fact.ensures.yes c.if-not-branch.false (drop (c.loop-fact.fact-index + 1) c.args.left.now)
    (found_next c.args.asked.now.stamps (map f c.args.way.now) (map f c.args.facts.now) c.loop-fact.places c.args.left.now c.loop-fact.fact-index c.loop-fact-test.true c.loop-fact.invariant)
