use Rattle.term_arena.specs.Arena.{IsWordAt, word_of, OfWord}
use Rattle.word_terms.specs.Tree.{word_tree}
use Rattle.held_terms.proofs.GrowthLemmas.{extends_next}
use Rattle.held_terms.specs.Terms.{tree_nodes}
use Rattle.held_terms.proofs.PutLemmas.{words_stay, put_next}
use Rattle.held_terms.proofs.PutOrder.{item-then}
use Rattle.held_terms.proofs.PutSteps.{item_left, steps_next, steps_within}
use Rattle.held_terms.proofs.put.put_words.Goals as goal

pub loop-word-preserved : goal.loop-word-preserved
loop-word-preserved g c =
    let xs = c.args.words.now in
    let i = c.loop-word.word-index in
    let before = c.loop-word.arena in
    let now = c.put_word.new.arena in
    record {
      grows = extends_next c.args.arena.now before now c.loop-word.invariant.grows c.put_word.ensures.grows;
      put = put_next (IsWordAt now) (word_of now) word_tree c.loop-word.numbers _ xs i c.word-item.result c.in_ok-k.k c.loop-word-test.true c.word-item.is c.in_ok-push.ensures.ok
          (words_stay before now c.put_word.ensures.grows c.loop-word.numbers _ c.loop-word.invariant.put) c.in_ok-k.ensures.put;
      order = item-then word_tree OfWord c.args.arena.now xs i c.word-item.result before now c.loop-word-test.true c.word-item.is c.loop-word.invariant.order c.in_ok-k.ensures.order;
      few = steps_next c.args.steps.now c.loop-word.steps c.put_word.new.steps (tree_nodes (OfWord (word_tree c.word-item.result))) _ _ _ c.loop-word.invariant.few (item_left word_tree c.args.words.now c.loop-word.word-index c.word-item.result c.loop-word-test.true c.word-item.is OfWord) c.put_word.ensures.steps;
    }

pub returns-in_err-k-clause-steps : goal.returns-in_err-k-clause-steps
returns-in_err-k-clause-steps g c =
    steps_within c.args.steps.now c.put_word.new.steps _ _
    (steps_next c.args.steps.now c.loop-word.steps c.put_word.new.steps (tree_nodes (OfWord (word_tree c.word-item.result))) _ _ _ c.loop-word.invariant.few (item_left word_tree c.args.words.now c.loop-word.word-index c.word-item.result c.loop-word-test.true c.word-item.is OfWord) c.put_word.ensures.steps)

pub returns-in_err-push-clause-steps : goal.returns-in_err-push-clause-steps
returns-in_err-push-clause-steps g c =
    steps_within c.args.steps.now c.put_word.new.steps _ _
    (steps_next c.args.steps.now c.loop-word.steps c.put_word.new.steps (tree_nodes (OfWord (word_tree c.word-item.result))) _ _ _ c.loop-word.invariant.few (item_left word_tree c.args.words.now c.loop-word.word-index c.word-item.result c.loop-word-test.true c.word-item.is OfWord) c.put_word.ensures.steps)
