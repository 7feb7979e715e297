use Rattle.std.proofs.Common.{◌+◌, ◌*◌}
use Rattle.code_parts.proofs.bodies.+bodies.Given as goal

abbrev pub decreases-acting_body : goal.decreases-acting_body
decreases-acting_body l = 8 * l.room

abbrev pub decreases-body_from : goal.decreases-body_from
decreases-body_from l = 8 * l.room + 1

abbrev pub decreases-body_to : goal.decreases-body_to
decreases-body_to l = 8 * l.room + 2

abbrev pub decreases-return_arm : goal.decreases-return_arm
decreases-return_arm l = 8 * l.room + 3

abbrev pub decreases-return_arms : goal.decreases-return_arms
decreases-return_arms l = 8 * l.room + 4

abbrev pub decreases-calling_body : goal.decreases-calling_body
decreases-calling_body l = 8 * l.room + 5
