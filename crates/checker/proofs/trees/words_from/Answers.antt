use Rattle.word_terms.specs.Tree.{word_tree}
use Rattle.term_arena.specs.Arena.{OfWord, word_of}
use Rattle.held_terms.proofs.PutSteps.{steps_next, steps_within}
use Rattle.checker.proofs.TreesLemmas.{place_left, place_pushed}
use Rattle.checker.proofs.trees.words_from.Goals as goal

pub loop-word-preserved : goal.loop-word-preserved
loop-word-preserved g c = record {
  read = place_pushed word_tree (word_of c.args.arena.now) c.loop-word.trees _ c.in_ok-tree.tree c.in_ok-push.ensures.ok c.args.words.now c.loop-word.word-index c.loop-word-test.true c.loop-word.invariant.read _ c.in_ok-tree.ensures.tree;
  few = steps_next c.args.steps.now c.loop-word.steps c.word_from.new.steps _ _ _ _ c.loop-word.invariant.few (place_left (word_of c.args.arena.now) c.args.words.now c.loop-word.word-index _ c.loop-word-test.true OfWord) c.word_from.ensures.steps;
}

pub returns-in_err-tree-clause-steps : goal.returns-in_err-tree-clause-steps
returns-in_err-tree-clause-steps g c =
    steps_within c.args.steps.now c.word_from.new.steps _ _ (steps_next c.args.steps.now c.loop-word.steps c.word_from.new.steps _ _ _ _ c.loop-word.invariant.few (place_left (word_of c.args.arena.now) c.args.words.now c.loop-word.word-index _ c.loop-word-test.true OfWord) c.word_from.ensures.steps)

pub returns-in_err-push-clause-steps : goal.returns-in_err-push-clause-steps
returns-in_err-push-clause-steps g c =
    steps_within c.args.steps.now c.word_from.new.steps _ _ (steps_next c.args.steps.now c.loop-word.steps c.word_from.new.steps _ _ _ _ c.loop-word.invariant.few (place_left (word_of c.args.arena.now) c.args.words.now c.loop-word.word-index _ c.loop-word-test.true OfWord) c.word_from.ensures.steps)
