use Rattle.loop_forest.specs.inner.Found.{heads}
use Rattle.loop_forest.specs.inner.Kept.{IsClosest}
use Rattle.loop_forest.proofs.region_table.region_of.Given as goal

abbrev pub invariant-loop-l : goal.invariant-loop-l
invariant-loop-l l = IsClosest l.g (heads l.loops) l.l l.n l.best
