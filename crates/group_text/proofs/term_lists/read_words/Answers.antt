use Rattle.std.proofs.Common.{map, sym, ◌∙◌, List as Items}
use Rattle.mc_text.proofs.Star.{star-pushed, star-ends}
use Rattle.word_terms.specs.declared.term.Word.{Word}
use Rattle.word_terms.specs.Tree.{word_tree}
use Rattle.group_text.specs.TermLimits.{depth_limit}
use Rattle.group_text.specs.TermReading.{begins_word, word_at}
use Rattle.group_text.proofs.TermLaws.{word-shrinks}
use Rattle.mc_text.proofs.StarReads.{star-stopped}
use Rattle.group_text.proofs.term_lists.read_words.Goals as goal

pub words-smaller : goal.words-smaller
words-smaller c = (word-shrinks depth_limit) _ _ _ c.in-Ok.ensures.gives

pub words-preserved : goal.words-preserved
words-preserved c = record {
  told = star-pushed word_tree begins_word (word_at depth_limit) (word-shrinks depth_limit) c.words.words _ _ _ _ _ c.in_ok-push-in-Ok.ensures.ok (sym c.words-test.ensures) c.in-Ok.ensures.gives c.words.invariant.told;
  last = c.in-Ok.ensures.last ∙ c.words.invariant.last;
}

pub returns-in-Err-clause-gives : goal.returns-in-Err-clause-gives
returns-in-Err-clause-gives c = star-stopped word_tree (λ (words : Items Word). map word_tree words) begins_word (word_at depth_limit) (word-shrinks depth_limit) c.in-Err.stop (map word_tree c.words.words) c.args.scan.now c.words.scan c.read_word.new.scan (sym c.words-test.ensures) c.in-Err.ensures.gives c.words.invariant.told

pub returns-clause-gives : goal.returns-clause-gives
returns-clause-gives c = star-ends begins_word (word_at depth_limit) (word-shrinks depth_limit) (map word_tree c.words.words) _ _ (sym c.words-test.ensures) c.words.invariant.told
