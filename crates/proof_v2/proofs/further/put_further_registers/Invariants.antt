use Rattle.std.proofs.Common.{map, take}
use Rattle.sep_assert.specs.Tree.{register_tree}
use Rattle.frame_compose.specs.Rules.{further}
use Rattle.term_arena.specs.Arena.{Extends, OfWord}
use Rattle.held_terms.specs.Terms.{AreTermsPutIn}
use Rattle.held_terms.specs.inner.Put.{AreRegistersPut}
use Rattle.proof_v2.proofs.further.put_further_registers.Given as goal

abbrev pub invariant-loop-register : goal.invariant-loop-register
invariant-loop-register g l = record {
  grows : Extends l.fn.arena l.arena;
  put : AreRegistersPut l.arena l.numbers (further (map register_tree l.own) (map register_tree (take l.register-index l.all)));
  order : AreTermsPutIn l.fn.arena (map (λ r. OfWord r.1) (further (map register_tree l.own) (map register_tree (take l.register-index l.all)))) l.arena;
}
