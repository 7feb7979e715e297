use Rattle.std.proofs.Common.{◌≡◌, ◌+◌, take, map}
use Rattle.std.specs.List.{range_with_len}
use Rattle.word_terms.specs.Tree.{MemVar}
use Rattle.term_arena.specs.Arena.{mem_of}
use Rattle.held_definitions.proofs.exits.are_mem_variables.Given as goal

abbrev pub invariant-loop-i : goal.invariant-loop-i
invariant-loop-i g l = record {
  steps : l.steps ≡ l.fn.steps + l.i;
  are : map (mem_of l.arena) (take l.i l.mems) ≡ map MemVar (range_with_len l.first l.i);
}
