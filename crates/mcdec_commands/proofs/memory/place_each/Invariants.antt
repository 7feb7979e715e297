use Rattle.std.proofs.Common.{◌≡◌, take}
use Rattle.std.specs.FinMap.{get}
use Rattle.mcdec_commands.specs.Memory.{placed}
use Rattle.mcdec_commands.proofs.memory.place_each.Given as goal

abbrev pub invariant-loop-range : goal.invariant-loop-range
invariant-loop-range l = get l.memory ≡ placed (take l.range-index l.ranges) (get l.fn.memory)
