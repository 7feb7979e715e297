use Rattle.std.proofs.Common.{◌+◌, ◌*◌}
use Rattle.held_consequence.proofs.alone.+bases.Given as goal

abbrev pub decreases-before_stores : goal.decreases-before_stores
decreases-before_stores g l = 2 * l.m + 1

abbrev pub decreases-base_over : goal.decreases-base_over
decreases-base_over g l = 2 * l.m
