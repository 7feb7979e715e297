use Rattle.term_arena.specs.Arena.{IsWordAt, OfWord}
use Rattle.sep_assert.specs.Tree.{register_tree}
use Rattle.held_terms.specs.Held.{register_of}
use Rattle.held_terms.proofs.GrowthLemmas.{extends_next}
use Rattle.held_terms.specs.Terms.{tree_nodes}
use Rattle.held_terms.proofs.PutLemmas.{registers_stay, word_beside, put_next}
use Rattle.held_terms.proofs.PutOrder.{item-then}
use Rattle.held_terms.proofs.PutSteps.{item_left, steps_next, steps_within}
use Rattle.held_terms.proofs.put.put_registers.Goals as goal

pub loop-register-preserved : goal.loop-register-preserved
loop-register-preserved g c =
    let xs = c.args.registers.now in
    let i = c.loop-register.register-index in
    let before = c.loop-register.arena in
    let now = c.put_word.new.arena in
    record {
      grows = extends_next c.args.arena.now before now c.loop-register.invariant.grows c.put_word.ensures.grows;
      put = put_next (λ r. IsWordAt now r.1) (register_of now) register_tree c.loop-register.numbers _ xs i c.register-item.result (c.register-item.result.0, c.in_ok-k.k) c.loop-register-test.true c.register-item.is c.in_ok-push.ensures.ok
          (registers_stay before now c.put_word.ensures.grows c.loop-register.numbers _ c.loop-register.invariant.put) (word_beside now c.register-item.result.0 c.in_ok-k.k _ c.in_ok-k.ensures.put);
      order = item-then register_tree (λ r. OfWord r.1) c.args.arena.now xs i c.register-item.result before now c.loop-register-test.true c.register-item.is c.loop-register.invariant.order c.in_ok-k.ensures.order;
      few = steps_next c.args.steps.now c.loop-register.steps c.put_word.new.steps (tree_nodes (OfWord (register_tree c.register-item.result).1)) _ _ _ c.loop-register.invariant.few (item_left register_tree c.args.registers.now c.loop-register.register-index c.register-item.result c.loop-register-test.true c.register-item.is (λ r. OfWord r.1)) c.put_word.ensures.steps;
    }

pub returns-in_err-k-clause-steps : goal.returns-in_err-k-clause-steps
returns-in_err-k-clause-steps g c =
    steps_within c.args.steps.now c.put_word.new.steps _ _
    (steps_next c.args.steps.now c.loop-register.steps c.put_word.new.steps (tree_nodes (OfWord (register_tree c.register-item.result).1)) _ _ _ c.loop-register.invariant.few (item_left register_tree c.args.registers.now c.loop-register.register-index c.register-item.result c.loop-register-test.true c.register-item.is (λ r. OfWord r.1)) c.put_word.ensures.steps)

pub returns-in_err-push-clause-steps : goal.returns-in_err-push-clause-steps
returns-in_err-push-clause-steps g c =
    steps_within c.args.steps.now c.put_word.new.steps _ _
    (steps_next c.args.steps.now c.loop-register.steps c.put_word.new.steps (tree_nodes (OfWord (register_tree c.register-item.result).1)) _ _ _ c.loop-register.invariant.few (item_left register_tree c.args.registers.now c.loop-register.register-index c.register-item.result c.loop-register-test.true c.register-item.is (λ r. OfWord r.1)) c.put_word.ensures.steps)
