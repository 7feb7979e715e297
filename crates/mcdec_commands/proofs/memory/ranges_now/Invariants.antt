use Rattle.std.proofs.Common.{◌≡◌, map, take}
use Rattle.std.specs.FinMap.{get}
use Rattle.mcdec_commands.specs.Memory.{held_at}
use Rattle.mcdec_commands.proofs.memory.ranges_now.Given as goal

abbrev pub invariant-loop-range : goal.invariant-loop-range
invariant-loop-range l = l.now ≡ map (held_at (get l.memory)) (take l.range-index l.ranges)
