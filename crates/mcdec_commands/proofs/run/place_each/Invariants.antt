use Rattle.mcdec_commands.proofs.SetUp.{HaveRanges}
use Rattle.mcdec_commands.proofs.run.place_each.Given as goal

abbrev pub invariant-loop-range : goal.invariant-loop-range
invariant-loop-range l = HaveRanges l.ranges l.fn.state l.state l.range-index
