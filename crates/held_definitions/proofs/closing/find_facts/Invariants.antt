use Rattle.std.proofs.Common.{drop, map}
use Rattle.held_terms.specs.Held.{fact_of}
use Rattle.held_definitions.specs.inner.Asked.{AreFound}
use Rattle.held_definitions.proofs.closing.find_facts.Given as goal

abbrev pub invariant-loop-fact : goal.invariant-loop-fact
invariant-loop-fact l = AreFound l.asked.stamps (map (fact_of l.arena) l.way) (map (fact_of l.arena) l.facts) l.places (drop l.fact-index l.left)
