use Rattle.std.proofs.Common.{◌+◌, ◌*◌}
use Rattle.path_walk.proofs.body_lines.+body_lines.Given as goal

abbrev pub decreases-acting_lines : goal.decreases-acting_lines
decreases-acting_lines l = 3 * l.room

abbrev pub decreases-calling_lines : goal.decreases-calling_lines
decreases-calling_lines l = 3 * l.room

abbrev pub decreases-lines_from : goal.decreases-lines_from
decreases-lines_from l = 3 * l.room + 1

abbrev pub decreases-lines_to : goal.decreases-lines_to
decreases-lines_to l = 3 * l.room + 2
