use Rattle.std.proofs.Common.{◌≡◌, ◌+◌, ◌≤◌, drop, map, take}
use Rattle.word_terms.specs.Tree.{mem_tree}
use Rattle.term_arena.specs.Arena.{OfMem, mem_of}
use Rattle.held_terms.specs.Terms.{nodes_of}
use Rattle.checker.proofs.trees.mems_from.Given as goal

abbrev pub invariant-loop-mem : goal.invariant-loop-mem
invariant-loop-mem g l = record {
  read : map mem_tree l.trees ≡ map (mem_of l.arena) (take l.mem-index l.mems);
  few : l.steps + nodes_of (map OfMem (map (mem_of l.arena) (drop l.mem-index l.mems))) ≤ l.fn.steps + nodes_of (map OfMem (map (mem_of l.arena) l.mems));
}
