use Rattle.std.proofs.Common.{◌∙◌, sym}
use Rattle.self_test.proofs.Evaluated.{result-other}
use Rattle.self_test.proofs.evaluation.result_of.Goals as goal

pub loop-i-preserved : goal.loop-i-preserved
loop-i-preserved c =
    sym (result-other c.args.register c.loop-i.i c.args.before c.args.registers.now c.args.words.now c.loop-i-test.true c.requires c.if-registers-i.false)
    ∙ c.loop-i.invariant
