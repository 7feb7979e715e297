use Rattle.term_arena.specs.Arena.{IsWordAt, OfWord}
use Rattle.proof_text.specs.Line.{word_put_in}
use Rattle.held_terms.specs.Held.{register_of}
use Rattle.held_terms.proofs.GrowthLemmas.{extends_next}
use Rattle.held_terms.specs.Terms.{tree_nodes}
use Rattle.held_terms.proofs.PutLemmas.{registers_stay, word_beside, put_next}
use Rattle.held_terms.proofs.PutOrder.{item-then}
use Rattle.held_terms.proofs.PutSteps.{item_left, steps_next, steps_within}
use Rattle.derived_triples.proofs.put_terms.put_word_terms.Goals as goal

pub loop-term-preserved : goal.loop-term-preserved
loop-term-preserved g c =
    let xs = c.args.terms.now in
    let i = c.loop-term.term-index in
    let before = c.loop-term.arena in
    let now = c.put_word.new.arena in
    record {
      grows = extends_next c.args.arena.now before now c.loop-term.invariant.grows c.put_word.ensures.grows;
      put = put_next (λ r. IsWordAt now r.1) (register_of now) word_put_in c.loop-term.numbers _ xs i c.term-item.result (c.term-item.result.0, c.in_ok-k.k) c.loop-term-test.true c.term-item.is c.in_ok-push.ensures.ok
          (registers_stay before now c.put_word.ensures.grows c.loop-term.numbers _ c.loop-term.invariant.put) (word_beside now c.term-item.result.0 c.in_ok-k.k _ c.in_ok-k.ensures.put);
      order = item-then word_put_in (λ p. OfWord p.1) c.args.arena.now xs i c.term-item.result before now c.loop-term-test.true c.term-item.is c.loop-term.invariant.order c.in_ok-k.ensures.order;
      few = steps_next c.args.steps.now c.loop-term.steps c.put_word.new.steps (tree_nodes (OfWord (word_put_in c.term-item.result).1)) _ _ _ c.loop-term.invariant.few (item_left word_put_in c.args.terms.now c.loop-term.term-index c.term-item.result c.loop-term-test.true c.term-item.is (λ p. OfWord p.1)) c.put_word.ensures.steps;
    }

pub returns-in_err-k-clause-steps : goal.returns-in_err-k-clause-steps
returns-in_err-k-clause-steps g c =
    steps_within c.args.steps.now c.put_word.new.steps _ _
    (steps_next c.args.steps.now c.loop-term.steps c.put_word.new.steps (tree_nodes (OfWord (word_put_in c.term-item.result).1)) _ _ _ c.loop-term.invariant.few (item_left word_put_in c.args.terms.now c.loop-term.term-index c.term-item.result c.loop-term-test.true c.term-item.is (λ p. OfWord p.1)) c.put_word.ensures.steps)

pub returns-in_err-push-clause-steps : goal.returns-in_err-push-clause-steps
returns-in_err-push-clause-steps g c =
    steps_within c.args.steps.now c.put_word.new.steps _ _
    (steps_next c.args.steps.now c.loop-term.steps c.put_word.new.steps (tree_nodes (OfWord (word_put_in c.term-item.result).1)) _ _ _ c.loop-term.invariant.few (item_left word_put_in c.args.terms.now c.loop-term.term-index c.term-item.result c.loop-term-test.true c.term-item.is (λ p. OfWord p.1)) c.put_word.ensures.steps)
