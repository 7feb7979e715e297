-- The trees of ends and of arms by themselves.
use Rattle.std.specs.Prelude.{List, map}
use Rattle.tailrec_lang.specs.declared.group.Body.{Body}
use Rattle.tailrec_lang.specs.declared.group.End.{End}
use Rattle.tailrec_lang.specs.declared.group.End.TheFolds.{fold-End}
use Rattle.tailrec_lang.specs.Tree.{ArmTrees, BodyTree, arms_of, body_step, body_tree, end_step}

-- the body that is that end alone
abbrev pub end_tree : End → BodyTree
end_tree = fold-End BodyTree BodyTree end_step body_step

-- the trees of arms
abbrev pub arm_trees : List Body → ArmTrees
arm_trees bs = arms_of (map body_tree bs)
