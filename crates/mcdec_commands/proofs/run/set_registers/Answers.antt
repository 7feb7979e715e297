use Rattle.std.proofs.Common.{arith}
use Rattle.mcdec_commands.proofs.SetUp.{have-none, have-more, have-all}
use Rattle.mcdec_commands.proofs.run.set_registers.Goals as goal

pub loop-register-init : goal.loop-register-init
loop-register-init c = have-none c.args.values.now.values c.args.state.now

pub loop-register-preserved : goal.loop-register-preserved
loop-register-preserved c =
    have-more c.args.values.now.values c.args.state.now c.loop-register.state c.set_reg.new.self c.loop-register.register c.value.result
    (omega (arith, c.loop-register.auto.register)) c.loop-register-test.true c.value.ensures c.loop-register.invariant c.set_reg.ensures

pub returns : goal.returns
returns c =
    have-all c.args.values.now.values c.args.state.now c.loop-register.state c.loop-register.register (omega (arith, c.loop-register-test.false, c.loop-register.auto.register-end)) c.loop-register.invariant
