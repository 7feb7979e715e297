use Rattle.std.proofs.Common.{◌≡◌, ℕ, ◌+◌, ◌≤◌, length, take, map}
use Rattle.std.specs.Prelude.{zip}
use Rattle.std.specs.List.{range_with_len}
use Rattle.word_terms.specs.Tree.{Var}
use Rattle.term_arena.specs.Arena.{word_of}
use Rattle.held_terms.specs.Held.{register_of}
use Rattle.held_definitions.proofs.exits.are_registers.Given as goal

abbrev pub invariant-loop-i : goal.invariant-loop-i
invariant-loop-i g l = record {
  steps : l.steps ≤ l.fn.steps + l.i;
  words : map (λ (r : ℕ × ℕ). word_of l.arena r.1) (take l.i l.registers) ≡ map Var (range_with_len l.first l.i);
  are : map (register_of l.arena) (take l.i l.registers) ≡ zip (take l.i l.numbers) (map Var (range_with_len l.first (length l.numbers)));
}
