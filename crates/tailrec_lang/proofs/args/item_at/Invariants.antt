use Rattle.std.proofs.Common.{◌≡◌, ◌<◌, length, slice_get}
use Rattle.tailrec_lang.proofs.args.item_at.Given as goal

abbrev pub invariant-loop-memory : goal.invariant-loop-memory
invariant-loop-memory l = record { there : l.place < length l.memories; same : slice_get l.memories l.place ≡ slice_get l.fn.memories l.i }

abbrev pub decreases-loop-memory : goal.decreases-loop-memory
decreases-loop-memory l = length l.memories
