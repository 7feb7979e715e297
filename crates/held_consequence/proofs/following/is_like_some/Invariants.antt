use Rattle.std.proofs.Common.{map, take}
use Rattle.std.specs.List.{Contains}
use Rattle.word_terms.specs.Tree.{CondTree}
use Rattle.term_arena.specs.Arena.{cond_of}
use Rattle.triple_kernel.specs.Tree.{So}
use Rattle.triple_kernel.specs.Rules.{Alike}
use Rattle.held_terms.specs.Held.{fact_of}
use Rattle.held_consequence.specs.inner.Alone.{AreAllFound}
use Rattle.held_consequence.specs.inner.Following.{HasCondAnd, Sought}
use Rattle.held_consequence.specs.inner.SideTables.{AreRight}
use Rattle.held_consequence.proofs.following.is_like_some.Given as goal

-- no condition of those so far is like it
abbrev pub invariant-loop-fact : goal.invariant-loop-fact
invariant-loop-fact g l = record {
  none : (d : CondTree) → Contains (map (fact_of l.arena) (take l.fact-index l.given)) (So d) → Alike (map (fact_of l.arena) l.facts) (cond_of l.arena l.c) d → ⊥;
  right : AreRight l.arena (map (fact_of l.arena) l.facts) l.known;
  found : AreAllFound l.arena l.found;
  sought : Sought l.arena (HasCondAnd l.arena l.c l.given) l.fn.known l.known l.fn.found l.found l.fn.steps l.steps;
}
