use Rattle.loop_forest.specs.inner.Found.{heads}
use Rattle.loop_forest.specs.inner.Kept.{AreRegions}
use Rattle.loop_forest.proofs.region_table.region_table.Given as goal

abbrev pub invariant-loop-n : goal.invariant-loop-n
invariant-loop-n l = AreRegions l.g (heads l.loops) l.found.items l.n
