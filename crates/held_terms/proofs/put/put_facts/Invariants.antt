use Rattle.std.proofs.Common.{◌+◌, ◌≤◌, drop, flat_map, map, take}
use Rattle.term_arena.specs.Arena.{Extends}
use Rattle.triple_kernel.specs.Tree.{fact_tree}
use Rattle.held_terms.specs.Terms.{AreTermsPutIn, fact_terms, nodes_of}
use Rattle.held_terms.specs.inner.Put.{AreFactsPut}
use Rattle.held_terms.proofs.put.put_facts.Given as goal

abbrev pub invariant-loop-fact : goal.invariant-loop-fact
invariant-loop-fact g l = record {
  grows : Extends l.fn.arena l.arena;
  put : AreFactsPut l.arena l.numbers (map fact_tree (take l.fact-index l.facts));
  order : AreTermsPutIn l.fn.arena (flat_map fact_terms (map fact_tree (take l.fact-index l.facts))) l.arena;
  few : l.steps + nodes_of (flat_map fact_terms (map fact_tree (drop l.fact-index l.facts))) ≤ l.fn.steps + nodes_of (flat_map fact_terms (map fact_tree l.facts));
}
