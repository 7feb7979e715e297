use Rattle.std.proofs.Common.{length}
use Rattle.tailrec_lang.specs.Tree.{group_tree}
use Rattle.proof_v2.specs.inner.Rewriting.{LinesSoFar}
use Rattle.proof_v2.proofs.texts.short_lines.Given as goal

abbrev pub invariant-loop-lines : goal.invariant-loop-lines
invariant-loop-lines g l = LinesSoFar (group_tree l.group) l.fn.reader l.reader l.kept l.arena l.lines

abbrev pub decreases-loop-lines : goal.decreases-loop-lines
decreases-loop-lines g l = length l.reader.rest
