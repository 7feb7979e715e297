use Rattle.std.proofs.Common.{take, map}
use Rattle.std.specs.List.{AllByRecursion}
use Rattle.tailrec_lang.specs.Tree.{def_tree}
use Rattle.group_terms.specs.Range.{DefInRange}
use Rattle.group_terms.proofs.range.has_range.Given as goal

abbrev pub invariant-loop-def : goal.invariant-loop-def
invariant-loop-def l = AllByRecursion DefInRange (map def_tree (take l.def-index l.g.defs))
