use Rattle.std.proofs.Common.{◌≡◌, ◌<◌, length, get_or}
use Rattle.loop_forest.proofs.WalkSteps.{Follows}
use Rattle.loop_forest.proofs.second_entry.walk_from.Given as goal

abbrev pub invariant-walk : goal.invariant-walk
invariant-walk l = record {
  follows : Follows l.g l.cycle (get_or l.search.nodes l.place 0) l.walk.items l.x;
  within : l.at < length l.search.nodes;
  x_is : l.x ≡ get_or l.search.nodes l.at 0;
}

abbrev pub decreases-walk : goal.decreases-walk
decreases-walk l = l.at
