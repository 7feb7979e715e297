use Rattle.std.proofs.Common.{◌≡◌}
use Rattle.rv_machine.specs.State.{state_of}
use Rattle.mcdec_commands.specs.inner.Running.{with_placed}
use Rattle.mcdec_commands.proofs.run.place_rising.Given as goal

abbrev pub invariant-loop-start : goal.invariant-loop-start
invariant-loop-start l = with_placed l.ranges (state_of l.state) ≡ with_placed l.ranges (state_of l.fn.state)
