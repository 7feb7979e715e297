use Rattle.std.proofs.Common.{◌≡◌, ◌+◌, take, map}
use Rattle.std.specs.List.{range_with_len}
use Rattle.word_terms.specs.Tree.{Var}
use Rattle.term_arena.specs.Arena.{word_of}
use Rattle.held_definitions.proofs.exits.are_word_variables.Given as goal

abbrev pub invariant-loop-i : goal.invariant-loop-i
invariant-loop-i g l = record {
  steps : l.steps ≡ l.fn.steps + l.i;
  are : map (word_of l.arena) (take l.i l.words) ≡ map Var (range_with_len l.first l.i);
}
