use Rattle.std.proofs.Common.{◌+◌, ◌*◌}
use Rattle.held_instances.proofs.images.+images.Given as goal

abbrev pub decreases-image : goal.decreases-image
decreases-image g l = 2 * l.x + 1

abbrev pub decreases-image_over : goal.decreases-image_over
decreases-image_over g l = 2 * l.x
