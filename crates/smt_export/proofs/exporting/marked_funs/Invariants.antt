use Rattle.std.proofs.Common.{◌≡◌, map, take}
use Rattle.tailrec_lang.specs.Tree.{group_tree}
use Rattle.smt_terms.specs.Views.{fun_tree}
use Rattle.smt_export.specs.Scripts.{funs_from}
use Rattle.smt_export.specs.inner.Reach.{is_marked}
use Rattle.smt_export.proofs.exporting.marked_funs.Given as goal

abbrev pub invariant-loop-d : goal.invariant-loop-d
invariant-loop-d l = map fun_tree l.funs ≡ funs_from (group_tree l.g) (is_marked l.def l.marks) 0 (take l.d (group_tree l.g).defs)
