use Rattle.std.proofs.Common.{◌≡◌}
use Rattle.std.specs.FinMap.{get}
use Rattle.mcdec_commands.specs.Memory.{placed}
use Rattle.mcdec_commands.proofs.memory.place_rising.Given as goal

abbrev pub invariant-loop-start : goal.invariant-loop-start
invariant-loop-start l = placed l.ranges (get l.memory) ≡ placed l.ranges (get l.fn.memory)
