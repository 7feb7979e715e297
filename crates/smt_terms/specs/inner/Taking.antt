-- Inputs as what terms stand for.
use Rattle.std.specs.Prelude.{◌≡◌, ℕ, true, List, map, Option, Some, None}
use Rattle.smt_terms.specs.declared.sort.Sort.{Sort}
use Rattle.smt_terms.specs.Sorts.{sorts_fit}
use Rattle.smt_terms.specs.declared.datum.Datum.{Datum}
use Rattle.smt_terms.specs.declared.smt.Smt.{Smt}
use Rattle.smt_terms.specs.Values.{IsOfSort, smt_value_at, AreOfSorts, values_at}
use Rattle.smt_terms.specs.inner.Datum.{sort_of_datum, sorted, meaning}

abbrev pub Takes : Sort → Smt → Option Datum → Type 0
Takes s x None = IsOfSort s x → ⊥
Takes s x (Some d) = IsOfSort s x × (sort_of_datum d ≡ s) × (meaning d ≡ smt_value_at s x)

abbrev pub TakesAll : List (List ℕ × Sort) → List Smt → Option (List Datum) → Type 0
TakesAll ps xs None = AreOfSorts ps xs → ⊥
TakesAll ps xs (Some ds) = AreOfSorts ps xs × (sorts_fit ps (map sorted ds) ≡ true) × (map meaning ds ≡ values_at ps xs)
