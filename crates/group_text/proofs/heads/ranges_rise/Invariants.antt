use Rattle.std.proofs.Common.{◌≡◌, drop}
use Rattle.group_text.specs.inner.Reading.{ranges_rise}
use Rattle.group_text.proofs.heads.ranges_rise.Given as goal

abbrev pub invariant-loop-range : goal.invariant-loop-range
invariant-loop-range l = ranges_rise l.least (drop l.range-index l.ranges) ≡ ranges_rise 0 l.ranges
