use Rattle.std.proofs.Common.{List, subst}
use Rattle.std.specs.Prelude.{IfOk}
use Rattle.word_terms.specs.Tree.{MemTree, mem_tree}
use Rattle.term_arena.specs.Arena.{OfMem}
use Rattle.std.specs.Prelude.{map}
use Rattle.held_terms.specs.Terms.{AreTermsPutIn}
use Rattle.held_terms.specs.inner.Put.{AreMemsPut}
use Rattle.proof_v2.proofs.FurtherPut.{rest-image}
use Rattle.proof_v2.proofs.further.put_further_mems.Goals as goal

pub returns-clause-put : goal.returns-clause-put
returns-clause-put g c =
    subst (λ (ms : List MemTree). IfOk c.put_mems.result (λ ks. AreMemsPut c.put_mems.new.arena ks ms)) (rest-image mem_tree c.args.own.now c.args.all.now _ c.rest_after.ensures) c.put_mems.ensures.put

pub returns-clause-order : goal.returns-clause-order
returns-clause-order g c =
    subst (λ (ms : List MemTree). IfOk c.put_mems.result (λ _. AreTermsPutIn c.args.arena.now (map OfMem ms) c.put_mems.new.arena)) (rest-image mem_tree c.args.own.now c.args.all.now _ c.rest_after.ensures) c.put_mems.ensures.order
