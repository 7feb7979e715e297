use Rattle.std.proofs.Common.{◌≡◌, ℕ, ◌+◌, ◌-◌, length}
use Rattle.loop_forest.specs.inner.Placed.{place_in}
use Rattle.loop_forest.proofs.node_set.make_room.Given as goal

abbrev pub invariant-room : goal.invariant-room
invariant-room l = (y : ℕ) → place_in l.places.items y ≡ place_in l.initial.places.items y

abbrev pub decreases-room : goal.decreases-room
decreases-room l = l.x + 1 - length l.places.items
