use Rattle.rv_machine.specs.State.{state_of}
use Rattle.mcdec_commands.proofs.SetUp.{HaveShown}
use Rattle.mcdec_commands.proofs.run.shown.Given as goal

abbrev pub invariant-loop-register : goal.invariant-loop-register
invariant-loop-register l = HaveShown l.values.values (state_of l.state) l.registers l.words l.register
