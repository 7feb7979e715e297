use Rattle.std.proofs.Common.{◌≤◌}
use Rattle.loop_forest.specs.inner.Bases.{IsEnd}
use Rattle.loop_forest.proofs.cut_tables.is_end.Given as goal

abbrev pub invariant-loop-l : goal.invariant-loop-l
invariant-loop-l l = (o : IsEnd l.loops l.n) → l.l-index ≤ o.place
