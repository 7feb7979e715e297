use Rattle.std.proofs.Common.{◌≡◌, ◌+◌, ◌≤◌, drop, map, take}
use Rattle.sep_assert.specs.Tree.{register_tree}
use Rattle.term_arena.specs.Arena.{OfWord}
use Rattle.held_terms.specs.Held.{register_of}
use Rattle.held_terms.specs.Terms.{nodes_of}
use Rattle.checker.proofs.trees.registers_from.Given as goal

abbrev pub invariant-loop-register : goal.invariant-loop-register
invariant-loop-register g l = record {
  read : map register_tree l.trees ≡ map (register_of l.arena) (take l.register-index l.registers);
  few : l.steps + nodes_of (map (λ r. OfWord r.1) (map (register_of l.arena) (drop l.register-index l.registers))) ≤ l.fn.steps + nodes_of (map (λ r. OfWord r.1) (map (register_of l.arena) l.registers));
}
