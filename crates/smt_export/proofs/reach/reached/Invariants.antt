use Rattle.std.proofs.Common.{◌≡◌, ◌+◌, length}
use Rattle.tailrec_lang.specs.Tree.{group_tree}
use Rattle.smt_export.specs.inner.Reach.{AreMarks}
use Rattle.smt_export.proofs.reach.reached.Given as goal

abbrev pub invariant-loop-i : goal.invariant-loop-i
invariant-loop-i l = (length l.marks ≡ l.i + 1) × AreMarks (group_tree l.g) l.def l.marks
