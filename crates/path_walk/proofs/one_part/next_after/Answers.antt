use Rattle.std.proofs.Common.{arith}
use Rattle.path_walk.proofs.ClosingLines.{one_stated}
use Rattle.path_walk.proofs.one_part.next_after.Goals as goal

pub loop-line-preserved : goal.loop-line-preserved
loop-line-preserved c =
    let one = one_stated c.args.lines.now c.loop-line.line-index c.line-item.result (omega arith) c.line-item.is in
    (omega (arith, one, c.count_of-next.ensures.count, c.loop-line.invariant.0), omega (arith, c.count_of-next.ensures.one, c.loop-line.invariant.1))
