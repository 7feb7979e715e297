-- When what is computed is the value of a term.
use Rattle.std.specs.Prelude.{◌≡◌, List, map, Some}
use Rattle.smt_terms.specs.declared.sort.Sort.{Sort}
use Rattle.smt_terms.specs.Expression.{Expr, Exprs}
use Rattle.smt_terms.specs.Meaning.{FunTree, no_names, functions_after, value, binding_value, values}
use Rattle.smt_terms.specs.Sorts.{rules_after, sort_of, binding_sort, sorts_of}
use Rattle.smt_terms.specs.declared.datum.Datum.{Datum}
use Rattle.smt_terms.specs.declared.scope.Binding.{Binding}
use Rattle.smt_terms.specs.inner.Datum.{sort_of_datum, meaning, StandsFor}
use Rattle.smt_terms.specs.inner.Scope.{sorts_in, variables_in}

pub record Tells (funs : List FunTree) (scope : List Binding) (e : Expr) (d : Datum) : Type 0 where
  pub tells : StandsFor (sort_of (rules_after no_names funs) (sorts_in scope) e) (value (functions_after no_names funs) (variables_in scope) e) d

pub record TellsBinding (funs : List FunTree) (scope : List Binding) (es : Exprs) (d : Datum) : Type 0 where
  pub tells : StandsFor (binding_sort (rules_after no_names funs) (sorts_in scope) es) (binding_value (functions_after no_names funs) (variables_in scope) es) d

pub record TellsAll (funs : List FunTree) (scope : List Binding) (es : Exprs) (ds : List Datum) : Type 0 where
  pub sorts : (ss : List Sort) → sorts_of (rules_after no_names funs) (sorts_in scope) es ≡ map Some ss → map sort_of_datum ds ≡ ss
  pub told : (ss : List Sort) → sorts_of (rules_after no_names funs) (sorts_in scope) es ≡ map Some ss → map meaning ds ≡ values (functions_after no_names funs) (variables_in scope) es
