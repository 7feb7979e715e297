use Rattle.std.proofs.Common.{◌+◌, ◌≤◌, drop, map, take}
use Rattle.term_arena.specs.Arena.{Extends, OfMem}
use Rattle.word_terms.specs.Tree.{mem_tree}
use Rattle.held_terms.specs.Terms.{AreTermsPutIn, nodes_of}
use Rattle.held_terms.specs.inner.Put.{AreMemsPut}
use Rattle.held_terms.proofs.put.put_mems.Given as goal

abbrev pub invariant-loop-mem : goal.invariant-loop-mem
invariant-loop-mem g l = record {
  grows : Extends l.fn.arena l.arena;
  put : AreMemsPut l.arena l.numbers (map mem_tree (take l.mem-index l.mems));
  order : AreTermsPutIn l.fn.arena (map OfMem (map mem_tree (take l.mem-index l.mems))) l.arena;
  few : l.steps + nodes_of (map OfMem (map mem_tree (drop l.mem-index l.mems))) ≤ l.fn.steps + nodes_of (map OfMem (map mem_tree l.mems));
}
