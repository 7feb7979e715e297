use Rattle.std.proofs.Common.{◌≡◌, take}
use Rattle.word_terms.proofs.code.copy_ranges.Given as goal

abbrev pub invariant-loop-range : goal.invariant-loop-range
invariant-loop-range l = l.copies ≡ take l.range-index l.ranges
