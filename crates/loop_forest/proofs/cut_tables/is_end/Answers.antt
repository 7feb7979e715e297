use Rattle.std.proofs.Common.{true≢false, sym, ◌∙◌, arith}
use Rattle.loop_forest.proofs.BackToBase.{past}
use Rattle.loop_forest.proofs.cut_tables.is_end.Goals as goal

pub loop-l-preserved : goal.loop-l-preserved
loop-l-preserved c o = past c.args.loops.now c.args.n c.loop-l.l-index c.l-item.result _ c.l-item.is (λ e. true≢false (sym (c.is_end_of.ensures.1 e) ∙ c.if-is_end_of.false)) o (c.loop-l.invariant o)

pub returns : goal.returns
returns c = ((λ t. absurd (true≢false (sym t))), (λ o. absurd (let le = c.loop-l.invariant o in let l = o.within in omega (arith, le, l, c.loop-l-test.false))))
