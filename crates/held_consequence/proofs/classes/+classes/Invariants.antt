use Rattle.std.proofs.Common.{◌+◌, ◌*◌}
use Rattle.held_consequence.proofs.classes.+classes.Given as goal

abbrev pub decreases-class_of : goal.decreases-class_of
decreases-class_of g l = 2 * l.x + 1

abbrev pub decreases-class_over : goal.decreases-class_over
decreases-class_over g l = 2 * l.x
