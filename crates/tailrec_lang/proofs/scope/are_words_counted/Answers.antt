use Rattle.std.proofs.Common.{refl}
use Rattle.word_terms.specs.Tree.{word_tree}
use Rattle.word_terms.specs.Scope.{WordInScope}
use Rattle.tailrec_lang.proofs.Lists.{all-at, all-take_all, all-take_more}
use Rattle.tailrec_lang.proofs.scope.are_words_counted.Goals as goal

pub returns-then-not-is_word_counted : goal.returns-then-not-is_word_counted
returns-then-not-is_word_counted c = λ w m counts. (
  λ h. cc,
  λ all.
      let h = (c.is_word_counted.ensures w m counts).1 (all-at word_tree (λ t. WordInScope t w m) c.args.terms.now c.loop-t.t-index c.t-item.result c.loop-t-test.true c.t-item.is all) in
      cc,
)

pub loop-t-preserved : goal.loop-t-preserved
loop-t-preserved c = λ w m counts.
    all-take_more word_tree (λ t. WordInScope t w m) c.args.terms.now c.loop-t.t-index c.t-item.result c.loop-t-test.true c.t-item.is (c.loop-t.invariant w m counts)
    ((c.is_word_counted.ensures w m counts).0 c.if-not-is_word_counted.false)

pub returns : goal.returns
returns c = λ w m counts. (λ h. all-take_all word_tree (λ t. WordInScope t w m) c.args.terms.now c.loop-t.t-index c.loop-t-test.false (c.loop-t.invariant w m counts), λ all. refl)
