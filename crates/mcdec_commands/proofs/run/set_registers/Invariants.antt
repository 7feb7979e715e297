use Rattle.mcdec_commands.proofs.SetUp.{HaveSet}
use Rattle.mcdec_commands.proofs.run.set_registers.Given as goal

abbrev pub invariant-loop-register : goal.invariant-loop-register
invariant-loop-register l = HaveSet l.values.values l.fn.state l.state l.register
