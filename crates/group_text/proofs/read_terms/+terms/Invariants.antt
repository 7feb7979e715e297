use Rattle.std.proofs.Common.{◌+◌, ◌*◌}
use Rattle.group_text.proofs.read_terms.+terms.Given as goal

abbrev pub decreases-word_within : goal.decreases-word_within
decreases-word_within l = 2 * l.room

abbrev pub decreases-word_parts : goal.decreases-word_parts
decreases-word_parts l = 2 * l.room + 1

abbrev pub decreases-mem_within : goal.decreases-mem_within
decreases-mem_within l = 2 * l.room

abbrev pub decreases-mem_parts : goal.decreases-mem_parts
decreases-mem_parts l = 2 * l.room + 1
