use Rattle.std.proofs.Common.{◌≡◌}
use Rattle.loop_forest.specs.Forest.{count_below, has_inside}
use Rattle.loop_forest.proofs.forest.Forest.loops_around.Given as goal

abbrev pub invariant-loop-l : goal.invariant-loop-l
invariant-loop-l l = l.count ≡ count_below (has_inside l.self l.n) l.l
