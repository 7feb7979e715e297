use Rattle.std.proofs.Common.{◌≡◌, map}
use Rattle.tailrec_lang.specs.Tree.{def_tree}
use Rattle.proof_text.specs.Line.{line_tree}
use Rattle.verdicts.specs.Instance.{after_lines}
use Rattle.path_walk.specs.Forgotten.{KeepsNone}
use Rattle.path_walk.specs.inner.Walks.{AreWalked}
use Rattle.path_walk.proofs.all_parts.walk_all.Given as goal

abbrev pub invariant-loop-part : goal.invariant-loop-part
invariant-loop-part l = AreWalked l.version l.flow l.part-index (map def_tree l.defs) (map line_tree l.lines) × (l.next ≡ (after_lines (map line_tree l.lines)).next) × KeepsNone (after_lines (map line_tree l.lines))
