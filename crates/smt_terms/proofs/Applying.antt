-- Operators applied to operands that they don't take.
use Rattle.std.proofs.Common.{◌≡◌, ℕ, false, List, [], ◌∷◌, map, Option, Some, None, refl}
use Rattle.smt_terms.specs.declared.sort.Sort.{Sort}
use Rattle.smt_terms.specs.declared.sort.Sort.TheVariants as sort
use Rattle.smt_terms.specs.Operators.{Truth, truth, truths_rule, vectors_rule, equal_rule, same}
use Rattle.smt_terms.specs.declared.datum.Datum.{Datum}
use Rattle.smt_terms.specs.declared.datum.Datum.TheVariants as datum
use Rattle.smt_terms.specs.inner.Datum.{sorted, meaning}

pub unequal : (ds : List Datum) → truths_rule (map sorted ds) ≡ None → vectors_rule truth (map sorted ds) ≡ None → equal_rule (map sorted ds) ≡ None
unequal [] t v = refl
unequal (datum.Bits a ∷ ds) t v = v
unequal (datum.Array a ∷ ds) t v = refl
unequal (datum.Truth a ∷ []) t v = refl
unequal (datum.Truth a ∷ datum.Bits b ∷ ds) t v = refl
unequal (datum.Truth a ∷ datum.Array b ∷ ds) t v = refl
unequal (datum.Truth a ∷ datum.Truth b ∷ []) t v = absurd (cc)
unequal (datum.Truth a ∷ datum.Truth b ∷ d ∷ ds) t v = refl

pub unequal_stands : (ds : List Datum) → truths_rule (map sorted ds) ≡ None → ((of : ℕ → Option Sort) → vectors_rule of (map sorted ds) ≡ None) → (s : Sort) → equal_rule (map sorted ds) ≡ Some s
    → (sort.Bool ≡ s) × (Truth false ≡ same (map meaning ds))
unequal_stands ds t v s h = let e = unequal ds t (v truth) in absurd (cc)
