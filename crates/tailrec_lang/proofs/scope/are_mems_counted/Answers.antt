use Rattle.std.proofs.Common.{refl}
use Rattle.word_terms.specs.Tree.{mem_tree}
use Rattle.word_terms.specs.Scope.{MemInScope}
use Rattle.tailrec_lang.proofs.Lists.{all-at, all-take_all, all-take_more}
use Rattle.tailrec_lang.proofs.scope.are_mems_counted.Goals as goal

pub returns-then-not-is_mem_counted : goal.returns-then-not-is_mem_counted
returns-then-not-is_mem_counted c = λ w m counts. (
  λ h. cc,
  λ all.
      let h = (c.is_mem_counted.ensures w m counts).1 (all-at mem_tree (λ t. MemInScope t w m) c.args.terms.now c.loop-t.t-index c.t-item.result c.loop-t-test.true c.t-item.is all) in
      cc,
)

pub loop-t-preserved : goal.loop-t-preserved
loop-t-preserved c = λ w m counts.
    all-take_more mem_tree (λ t. MemInScope t w m) c.args.terms.now c.loop-t.t-index c.t-item.result c.loop-t-test.true c.t-item.is (c.loop-t.invariant w m counts)
    ((c.is_mem_counted.ensures w m counts).0 c.if-not-is_mem_counted.false)

pub returns : goal.returns
returns c = λ w m counts. (λ h. all-take_all mem_tree (λ t. MemInScope t w m) c.args.terms.now c.loop-t.t-index c.loop-t-test.false (c.loop-t.invariant w m counts), λ all. refl)
