use Rattle.std.proofs.Common.{◌∙◌, arith}
use Rattle.mcdec_commands.proofs.Judging.{line-ends, line-goes-on}
use Rattle.mcdec_commands.proofs.laws.count_lines.Goals as goal
use Rattle.mcdec_commands.proofs.laws.count_lines.Goals.{then-byte-eq10, else-byte-eq10}

pub loop-byte-preserved : goal.loop-byte-preserved
loop-byte-preserved c =
    let text = c.args.text.now in
    let i = c.loop-byte.byte-index in
    let so = c.loop-byte.invariant in
    elim c.if-byte-eq10.branch [
      | then-byte-eq10 w ↦ (w.count-is ∙ line-ends text i 0 c.loop-byte.count c.loop-byte-test.true w.if-byte-eq10.true so.0, omega (arith, w.count-is, so.1))
      | else-byte-eq10 w ↦ (w.count-is ∙ line-goes-on text i 0 c.loop-byte.count c.loop-byte-test.true w.if-byte-eq10.false so.0, omega (arith, w.count-is, so.1))
    ]
