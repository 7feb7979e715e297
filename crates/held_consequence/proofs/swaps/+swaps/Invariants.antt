use Rattle.std.proofs.Common.{◌+◌, ◌*◌}
use Rattle.held_consequence.proofs.swaps.+swaps.Given as goal

abbrev pub decreases-swap_word : goal.decreases-swap_word
decreases-swap_word g l = 2 * l.a + 1

abbrev pub decreases-swap_below_words : goal.decreases-swap_below_words
decreases-swap_below_words g l = 2 * l.a

abbrev pub decreases-swap_mem : goal.decreases-swap_mem
decreases-swap_mem g l = 2 * l.a + 1

abbrev pub decreases-swap_below_mems : goal.decreases-swap_below_mems
decreases-swap_below_mems g l = 2 * l.a
