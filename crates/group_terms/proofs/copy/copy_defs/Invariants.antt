use Rattle.std.proofs.Common.{◌≡◌, take, map}
use Rattle.tailrec_lang.specs.Tree.{def_tree}
use Rattle.group_terms.proofs.copy.copy_defs.Given as goal

abbrev pub invariant-loop-def : goal.invariant-loop-def
invariant-loop-def l = map def_tree l.copies ≡ map def_tree (take l.def-index l.defs)
