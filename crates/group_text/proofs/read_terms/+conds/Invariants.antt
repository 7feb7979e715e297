use Rattle.std.proofs.Common.{◌+◌, ◌*◌}
use Rattle.group_text.proofs.read_terms.+conds.Given as goal

abbrev pub decreases-cond_within : goal.decreases-cond_within
decreases-cond_within l = 2 * l.room

abbrev pub decreases-cond_parts : goal.decreases-cond_parts
decreases-cond_parts l = 2 * l.room + 1
