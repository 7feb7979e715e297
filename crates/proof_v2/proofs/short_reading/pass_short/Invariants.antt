use Rattle.std.proofs.Common.{length}
use Rattle.tailrec_lang.specs.Tree.{group_tree}
use Rattle.proof_v2.specs.AnyReading.{reading_state}
use Rattle.proof_v2.specs.inner.ShortReading.{IsOpen}
use Rattle.proof_v2.proofs.AnyGiven.{Tabled}
use Rattle.proof_v2.proofs.short_reading.pass_short.Given as goal

abbrev pub invariant-loop-spelled : goal.invariant-loop-spelled
invariant-loop-spelled l = Tabled (reading_state l.fn.reader l.fn.lines) (group_tree l.group) (reading_state l.reader l.lines) × IsOpen l.lines

abbrev pub decreases-loop-spelled : goal.decreases-loop-spelled
decreases-loop-spelled l = length l.reader.rest
