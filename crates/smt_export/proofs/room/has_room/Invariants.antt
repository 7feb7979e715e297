use Rattle.std.proofs.Common.{take, map}
use Rattle.std.specs.List.{AllByRecursion}
use Rattle.tailrec_lang.specs.Tree.{def_tree, group_tree}
use Rattle.smt_export.specs.inner.Room.{DefHasRoom}
use Rattle.smt_export.proofs.room.has_room.Given as goal

abbrev pub invariant-loop-def : goal.invariant-loop-def
invariant-loop-def l = AllByRecursion (DefHasRoom (group_tree l.g)) (map def_tree (take l.def-index l.g.defs))
