use Rattle.sep_assert.specs.Tree.{register_tree}
use Rattle.term_arena.specs.Arena.{OfWord}
use Rattle.held_terms.specs.Held.{register_of}
use Rattle.held_terms.proofs.PutSteps.{steps_next, steps_within}
use Rattle.checker.proofs.TreesLemmas.{place_left, place_pushed, register_read}
use Rattle.checker.proofs.trees.registers_from.Goals as goal

pub loop-register-preserved : goal.loop-register-preserved
loop-register-preserved g c = record {
  read = place_pushed register_tree (register_of c.args.arena.now) c.loop-register.trees _ _ c.in_ok-push.ensures.ok c.args.registers.now c.loop-register.register-index c.loop-register-test.true c.loop-register.invariant.read _ (register_read c.args.arena.now _ c.in_ok-word.word c.in_ok-word.ensures.tree);
  few = steps_next c.args.steps.now c.loop-register.steps c.word_from.new.steps _ _ _ _ c.loop-register.invariant.few (place_left (register_of c.args.arena.now) c.args.registers.now c.loop-register.register-index _ c.loop-register-test.true (λ r. OfWord r.1)) c.word_from.ensures.steps;
}

pub returns-in_err-word-clause-steps : goal.returns-in_err-word-clause-steps
returns-in_err-word-clause-steps g c =
    steps_within c.args.steps.now c.word_from.new.steps _ _ (steps_next c.args.steps.now c.loop-register.steps c.word_from.new.steps _ _ _ _ c.loop-register.invariant.few (place_left (register_of c.args.arena.now) c.args.registers.now c.loop-register.register-index _ c.loop-register-test.true (λ r. OfWord r.1)) c.word_from.ensures.steps)

pub returns-in_err-push-clause-steps : goal.returns-in_err-push-clause-steps
returns-in_err-push-clause-steps g c =
    steps_within c.args.steps.now c.word_from.new.steps _ _ (steps_next c.args.steps.now c.loop-register.steps c.word_from.new.steps _ _ _ _ c.loop-register.invariant.few (place_left (register_of c.args.arena.now) c.args.registers.now c.loop-register.register-index _ c.loop-register-test.true (λ r. OfWord r.1)) c.word_from.ensures.steps)
