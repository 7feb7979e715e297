use Rattle.sep_assert.specs.inner.Search.{Stands}
use Rattle.sep_assert.proofs.search.place_of.Given as goal

abbrev pub invariant-loop-place : goal.invariant-loop-place
invariant-loop-place l = Stands l.ranges l.place l.address
