use Rattle.std.proofs.Common.{◌<◌, take}
use Rattle.std.specs.List.{AllByRecursion}
use Rattle.code_parts.proofs.code.law_of_ranges.Given as goal

abbrev pub invariant-loop-range : goal.invariant-loop-range
invariant-loop-range l = AllByRecursion (λ r. AllByRecursion (λ b. b < 256) r.bytes) (take l.range-index l.ranges)
