use Rattle.std.proofs.Common.{◌+◌, ◌≤◌, drop, map, take}
use Rattle.term_arena.specs.Arena.{Extends, OfWord}
use Rattle.sep_assert.specs.Tree.{register_tree}
use Rattle.held_terms.specs.Terms.{AreTermsPutIn, nodes_of}
use Rattle.held_terms.specs.inner.Put.{AreRegistersPut}
use Rattle.held_terms.proofs.put.put_registers.Given as goal

abbrev pub invariant-loop-register : goal.invariant-loop-register
invariant-loop-register g l = record {
  grows : Extends l.fn.arena l.arena;
  put : AreRegistersPut l.arena l.numbers (map register_tree (take l.register-index l.registers));
  order : AreTermsPutIn l.fn.arena (map (λ r. OfWord r.1) (map register_tree (take l.register-index l.registers))) l.arena;
  few : l.steps + nodes_of (map (λ r. OfWord r.1) (map register_tree (drop l.register-index l.registers))) ≤ l.fn.steps + nodes_of (map (λ r. OfWord r.1) (map register_tree l.registers));
}
