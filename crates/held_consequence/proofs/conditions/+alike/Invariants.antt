use Rattle.std.proofs.Common.{◌+◌, ◌*◌}
use Rattle.held_consequence.proofs.conditions.+alike.Given as goal

abbrev pub decreases-are_alike : goal.decreases-are_alike
decreases-are_alike g l = 2 * l.a + 1

abbrev pub decreases-are_alike_below : goal.decreases-are_alike_below
decreases-are_alike_below g l = 2 * l.a
