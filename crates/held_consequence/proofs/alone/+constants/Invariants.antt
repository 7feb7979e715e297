use Rattle.std.proofs.Common.{◌+◌, ◌*◌}
use Rattle.held_consequence.proofs.alone.+constants.Given as goal

abbrev pub decreases-constant_of : goal.decreases-constant_of
decreases-constant_of g l = 2 * l.x + 1

abbrev pub decreases-constant_over : goal.decreases-constant_over
decreases-constant_over g l = 2 * l.x
