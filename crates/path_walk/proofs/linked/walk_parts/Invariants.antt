use Rattle.std.proofs.Common.{◌≡◌, ◌++◌, map, take}
use Rattle.tailrec_lang.specs.Tree.{def_tree}
use Rattle.group_text.specs.declared.version.Version.TheVariants.{Three}
use Rattle.proof_text.specs.Line.{line_tree}
use Rattle.verdicts.specs.Instance.{after_lines}
use Rattle.code_parts.specs.Bodies.{part_def}
use Rattle.code_parts.specs.Kept.{flow_in}
use Rattle.path_walk.specs.Forgotten.{KeepsNone}
use Rattle.path_walk.specs.inner.LinkedWalks.{AreWalkedTo}
use Rattle.path_walk.proofs.linked.walk_parts.Given as goal

abbrev pub invariant-loop-part : goal.invariant-loop-part
invariant-loop-part l =
    AreWalkedTo Three (flow_in l.flow) l.flow.code l.parts l.part-index (map line_tree l.fn.lines) (map line_tree l.lines)
    × (map def_tree l.defs ≡ map def_tree l.fn.defs ++ map (part_def (flow_in l.flow)) (take l.part-index l.parts))
    × (l.next ≡ (after_lines (map line_tree l.lines)).next)
    × (KeepsNone (after_lines (map line_tree l.fn.lines)) → KeepsNone (after_lines (map line_tree l.lines)))
