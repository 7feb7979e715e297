use Rattle.std.proofs.Common.{◌+◌, ◌*◌}
use Rattle.held_consequence.proofs.alone.+truths.Given as goal

abbrev pub decreases-truth_of : goal.decreases-truth_of
decreases-truth_of g l = 2 * l.c + 1

abbrev pub decreases-truth_over : goal.decreases-truth_over
decreases-truth_over g l = 2 * l.c
