use Rattle.std.proofs.Common.{◌+◌, ◌≤◌, map}
use Rattle.std.specs.List.{range_with_len}
use Rattle.word_terms.specs.Tree.{MemVar}
use Rattle.term_arena.specs.Arena.{Extends}
use Rattle.held_terms.specs.inner.Put.{AreMemsPut}
use Rattle.held_definitions.proofs.exit_triples.mem_variables.Given as goal

abbrev pub invariant-loop-i : goal.invariant-loop-i
invariant-loop-i g l = record {
  grows : Extends l.fn.arena l.arena;
  steps : l.steps ≤ l.fn.steps + l.i;
  put : AreMemsPut l.arena l.list (map MemVar (range_with_len l.first l.i));
}
