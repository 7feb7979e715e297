use Rattle.std.proofs.Common.{◌+◌, ◌≤◌, drop, map, take}
use Rattle.term_arena.specs.Arena.{Extends, OfMem}
use Rattle.proof_text.specs.Line.{mem_put_in}
use Rattle.held_terms.specs.Terms.{AreTermsPutIn, nodes_of}
use Rattle.held_terms.specs.inner.Put.{AreMemTermsPut}
use Rattle.derived_triples.proofs.put_terms.put_mem_terms.Given as goal

abbrev pub invariant-loop-term : goal.invariant-loop-term
invariant-loop-term g l = record {
  grows : Extends l.fn.arena l.arena;
  put : AreMemTermsPut l.arena l.numbers (map mem_put_in (take l.term-index l.terms));
  order : AreTermsPutIn l.fn.arena (map (λ p. OfMem p.1) (map mem_put_in (take l.term-index l.terms))) l.arena;
  few : l.steps + nodes_of (map (λ p. OfMem p.1) (map mem_put_in (drop l.term-index l.terms))) ≤ l.fn.steps + nodes_of (map (λ p. OfMem p.1) (map mem_put_in l.terms));
}
