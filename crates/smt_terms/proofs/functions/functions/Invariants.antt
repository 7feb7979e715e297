use Rattle.std.proofs.Common.{◌≡◌, map, take}
use Rattle.smt_terms.specs.Views.{fun_tree}
use Rattle.smt_terms.specs.inner.Listed.{helper_fun}
use Rattle.smt_terms.proofs.functions.functions.Given as goal

abbrev pub invariant-loop-item : goal.invariant-loop-item
invariant-loop-item l = map fun_tree l.funs ≡ map helper_fun (take l.item-index l.items)
