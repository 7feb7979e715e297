-- A range that is put into a memory before all ranges are makes no difference: they cover it.
use Rattle.std.proofs.Common.{◌≡◌, ℕ, zero, suc, true, nat_lt, List, [], ◌∷◌, length, get_or, refl, ap, sym, ◌∙◌, Option, Some, None}
use Rattle.std.specs.Prelude.{slice_get}
use Rattle.std.specs.Option.{option_or}
use Rattle.std.proofs.lemmas.Bool.{ltb-true}
use Rattle.std.proofs.lemmas.Option.{slice_get-get_or}
use Rattle.rv_words.specs.Bytes.{Bytes, bytes_from, over}
use Rattle.rv_words.specs.declared.range.Range.{Range}
use Rattle.mcdec_commands.specs.Memory.{placed}

-- a range's bytes
abbrev bytes_in : Range → Bytes
bytes_in r = bytes_from r.at r.bytes

-- what stands at an address depends on what stood there alone
placed-at : (rs : List Range) (m w : Bytes) (a : ℕ) → m a ≡ w a → placed rs m a ≡ placed rs w a
placed-at [] m w a same = same
placed-at (r ∷ rs) m w a same = placed-at rs (over (bytes_in r) m) (over (bytes_in r) w) a (ap (option_or (bytes_in r a)) same)

or-twice : (x m : Option ℕ) → option_or x (option_or x m) ≡ option_or x m
or-twice None m = refl
or-twice (Some b) m = refl

-- a byte of y is put over one of x, and where y has none, x may be put over it
absorbs-at : (rs : List Range) (k : ℕ) (r : Range) (m : Bytes) (a : ℕ) → slice_get rs k ≡ Some r → placed rs (over (bytes_in r) m) a ≡ placed rs m a
absorbs-at [] k r m a is = absurd cc
absorbs-at (q ∷ rs) zero r m a is =
    let same : q ≡ r = cc in
    placed-at rs (over (bytes_in q) (over (bytes_in r) m)) (over (bytes_in q) m) a
    ((λ j. option_or (bytes_in q a) (option_or (bytes_in (sym same j) a) (m a))) ∙ or-twice (bytes_in q a) (m a))
absorbs-at (q ∷ rs) (suc k) r m a is = below (bytes_in q a) refl
    (placed-at rs (over (bytes_in q) (over (bytes_in r) m)) (over (bytes_in q) m) a)
    (λ swap. placed-at rs (over (bytes_in q) (over (bytes_in r) m)) (over (bytes_in r) (over (bytes_in q) m)) a swap ∙ absorbs-at rs k r (over (bytes_in q) m) a is)
  where
    below : (y : Option ℕ) → bytes_in q a ≡ y → {X : Type 0} → (option_or (bytes_in q a) (option_or (bytes_in r a) (m a)) ≡ option_or (bytes_in q a) (m a) → X)
        → (option_or (bytes_in q a) (option_or (bytes_in r a) (m a)) ≡ option_or (bytes_in r a) (option_or (bytes_in q a) (m a)) → X) → X
    below (Some b) y covered swapped = covered ((λ j. option_or (y j) (option_or (bytes_in r a) (m a))) ∙ (λ j. option_or (sym y j) (m a)))
    below None y covered swapped = swapped ((λ j. option_or (y j) (option_or (bytes_in r a) (m a))) ∙ (λ j. option_or (bytes_in r a) (option_or (sym y j) (m a))))

pub placed-absorbs : (rs : List Range) (k : ℕ) (r : Range) (m : Bytes) → true ≡ nat_lt k (length rs) → r ≡ get_or rs k r → placed rs (over (bytes_from r.at r.bytes) m) ≡ placed rs m
placed-absorbs rs k r m there is =
    let found : slice_get rs k ≡ Some r = slice_get-get_or rs k r (ltb-true k (length rs) (sym there)) ∙ ap Some (sym is) in
    λ j a. absorbs-at rs k r m a found j
