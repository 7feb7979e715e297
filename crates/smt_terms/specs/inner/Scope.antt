-- What names are bound to, the last binding first.
use Rattle.std.specs.Prelude.{List, [], ◌∷◌}
use Rattle.smt_terms.specs.Meaning.{Variables, no_names, bind}
use Rattle.smt_terms.specs.Sorts.{Sorts}
use Rattle.smt_terms.specs.declared.scope.Binding.{Binding}
use Rattle.smt_terms.specs.inner.Datum.{sort_of_datum, meaning}

abbrev pub sorts_behind : Sorts → List Binding → Sorts
sorts_behind s [] = s
sorts_behind s (b ∷ bs) = sorts_behind (bind s b.name.now (sort_of_datum b.datum)) bs

abbrev pub variables_behind : Variables → List Binding → Variables
variables_behind s [] = s
variables_behind s (b ∷ bs) = variables_behind (bind s b.name.now (meaning b.datum)) bs

abbrev pub sorts_in : List Binding → Sorts
sorts_in scope = sorts_behind no_names scope

abbrev pub variables_in : List Binding → Variables
variables_in scope = variables_behind no_names scope
