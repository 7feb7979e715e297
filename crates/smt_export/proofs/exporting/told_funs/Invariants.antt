use Rattle.std.proofs.Common.{◌≡◌, map, take}
use Rattle.tailrec_lang.specs.Tree.{def_tree, group_tree}
use Rattle.smt_terms.specs.Views.{fun_tree}
use Rattle.smt_export.specs.Scripts.{def_fun}
use Rattle.smt_export.proofs.exporting.told_funs.Given as goal

abbrev pub invariant-loop-told : goal.invariant-loop-told
invariant-loop-told l = map fun_tree l.funs ≡ map (def_fun (group_tree l.g) l.d (def_tree l.def)) (take l.told-index l.all)
