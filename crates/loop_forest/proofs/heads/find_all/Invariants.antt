use Rattle.std.proofs.Common.{◌≤◌, ◌-◌, length}
use Rattle.loop_forest.specs.inner.Found.{AreLoops}
use Rattle.loop_forest.proofs.heads.find_all.Given as goal

abbrev pub invariant-heads : goal.invariant-heads
invariant-heads l = record { loops : AreLoops l.g l.loops.items l.h; upto : l.h ≤ length l.g.addrs }

abbrev pub decreases-heads : goal.decreases-heads
decreases-heads l = length l.g.addrs - l.h
