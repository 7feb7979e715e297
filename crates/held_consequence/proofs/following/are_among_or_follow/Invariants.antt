use Rattle.std.proofs.Common.{map, take}
use Rattle.triple_kernel.specs.Rules.{AreAmongOrFollow}
use Rattle.held_terms.specs.Held.{fact_of}
use Rattle.held_consequence.specs.inner.SideTables.{AreRight}
use Rattle.held_consequence.specs.inner.Alone.{AreAllFound}
use Rattle.held_consequence.specs.inner.Following.{AllSought, HasBothFacts}
use Rattle.held_consequence.proofs.following.are_among_or_follow.Given as goal

abbrev pub invariant-loop-fact : goal.invariant-loop-fact
invariant-loop-fact g l = record {
  hold : AreAmongOrFollow (map (fact_of l.arena) (take l.fact-index l.facts)) (map (fact_of l.arena) l.others);
  right : AreRight l.arena (map (fact_of l.arena) l.others) l.known;
  found : AreAllFound l.arena l.found;
  sought : AllSought l.arena (HasBothFacts l.arena l.facts l.others) l.known l.found l.initial.steps l.steps;
}
