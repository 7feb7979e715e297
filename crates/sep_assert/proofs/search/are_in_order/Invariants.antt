use Rattle.std.proofs.Common.{drop}
use Rattle.sep_assert.specs.inner.Search.{RiseFrom}
use Rattle.sep_assert.proofs.search.are_in_order.Given as goal

abbrev pub invariant-loop-range : goal.invariant-loop-range
invariant-loop-range l = RiseFrom l.least (drop l.range-index l.ranges) → RiseFrom 0 l.ranges
