use Rattle.std.proofs.Common.{◌≡◌, drop}
use Rattle.rv_words.specs.Ranges.{range_bytes}
use Rattle.sep_assert.proofs.search.byte_of.Given as goal

-- those so far have no byte there
abbrev pub invariant-loop-range : goal.invariant-loop-range
invariant-loop-range l = range_bytes (drop l.range-index l.ranges) l.address ≡ range_bytes l.ranges l.address
