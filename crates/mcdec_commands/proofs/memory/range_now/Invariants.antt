use Rattle.std.proofs.Common.{◌≡◌, ◌+◌, map, unwrap_or}
use Rattle.std.specs.List.{range_with_len}
use Rattle.std.specs.FinMap.{get}
use Rattle.mcdec_commands.proofs.memory.range_now.Given as goal

abbrev pub invariant-loop-k : goal.invariant-loop-k
invariant-loop-k l = l.bytes ≡ map (λ j. unwrap_or (get l.memory (l.range.at + j)) 0) (range_with_len 0 l.k)
