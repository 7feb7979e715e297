use Rattle.std.proofs.Common.{◌≡◌, true, subst, sym}
use Rattle.std.specs.List.{AllByRecursion}
use Rattle.smt_terms.specs.Sorts.{is_sort}
use Rattle.smt_terms.specs.Views.{fun_tree}
use Rattle.smt_terms.proofs.Applications.{sorts_of_params}
use Rattle.smt_terms.proofs.value.value_of.Goals as goal

pub taken-requires : goal.taken-requires
taken-requires c =
    subst (λ ps. AllByRecursion (λ p. is_sort p.1 ≡ true) ps) (sym c.as_slice-params.ensures)
    (sorts_of_params _ (fun_tree c.in-Some.found.fun.now) (c.in-Some.ensures.script c.funs.ensures.script).1)
