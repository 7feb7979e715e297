use Rattle.std.proofs.Common.{sym, ◌∙◌, true≢false}
use Rattle.loop_forest.proofs.SmallestLoop.{closest_more, closest_skip}
use Rattle.loop_forest.proofs.region_table.region_of.Goals as goal
use Rattle.loop_forest.proofs.region_table.region_of.Goals.{then-is_closer, else-is_closer}

pub loop-l-preserved : goal.loop-l-preserved
loop-l-preserved c =
    let flow = c.len-count.ensures.flow in
    elim c.if-is_closer.branch [
      | then-is_closer w ↦ rw w.best-is (closest_more c.args.g.now c.args.loops.now c.loop-l.l c.args.n c.loop-l.best flow c.requires.loops c.loop-l-test.true c.loop-l.invariant (c.is_closer.ensures.0 w.if-is_closer.true))
      | else-is_closer w ↦ rw w.best-is (closest_skip c.args.g.now c.args.loops.now c.loop-l.l c.args.n c.loop-l.best flow c.requires.loops c.loop-l-test.true c.requires.node c.loop-l.invariant
          (λ d. true≢false (sym (c.is_closer.ensures.1 d) ∙ w.if-is_closer.false)))
    ]
