-- The one value of some, with one value more among them.
use Rattle.std.proofs.Common.{◌≡◌, ℕ, ◌<◌, ◌≤◌, min, max, List, [], ◌∷◌, sym, ◌∙◌, ⊎_elim, arith}
use Rattle.std.specs.Prelude.{Ok, Err}
use Rattle.std.specs.declared.cmp.Ordering.{Ordering}
use Rattle.std.specs.declared.cmp.Ordering.TheVariants.{Less, Equal, Greater}
use Rattle.std.specs.BTreeSet.{insert_key}
use Rattle.std.specs.Cmp.{nat_cmp_is}
use Rattle.std.specs.Ordering.{MatchOrdering, match_ordering, nat_cmp}
use Rattle.std.proofs.lemmas.Bool.{cases_lt}
use Rattle.elf_image.specs.declared.symbol.NameFault.TheVariants.{NoSuch, Ambiguous}
use Rattle.elf_image.specs.Symbol.{one_of}

-- the values, with one more at its offset
abbrev with : List ℕ → ℕ → List ℕ
with vs v = insert_key nat_cmp vs v

at_place : (x : ℕ) (vs : List ℕ) (v : ℕ) (r : Ordering) → MatchOrdering r (v < x) (v ≡ x) (x < v) → with (x ∷ vs) v ≡ match_ordering r (v ∷ x ∷ vs) (x ∷ vs) (x ∷ with vs v)
at_place x vs v r is = λ j. match_ordering (sym (nat_cmp_is v x r is) j) (v ∷ x ∷ vs) (x ∷ vs) (x ∷ with vs v)

-- what isn't below the second value leaves the first two
no_lower : (x y : ℕ) (vs : List ℕ) (v : ℕ) → y ≤ v → one_of (x ∷ with (y ∷ vs) v) ≡ Err (Ambiguous x y)
no_lower x y vs v le =
    ⊎_elim
    (λ lt. λ j. one_of (x ∷ at_place y vs v Greater lt j))
    (λ ge. λ j. one_of (x ∷ at_place y vs v Equal (omega arith) j))
    (cases_lt y v)

-- ---- the steps

pub first_value : (vs : List ℕ) (v : ℕ) → one_of vs ≡ Err NoSuch → one_of (with vs v) ≡ Ok v
first_value [] v e = λ j. Ok v
first_value (x ∷ []) v e = absurd (cc)
first_value (x ∷ y ∷ vs) v e = absurd (cc)

pub again_one : (vs : List ℕ) (a v : ℕ) → one_of vs ≡ Ok a → v ≡ a → one_of (with vs v) ≡ Ok a
again_one [] a v e is = absurd (cc)
again_one (x ∷ []) a v e is =
    let same : x ≡ a = cc in
    (λ j. one_of (at_place x [] v Equal (is ∙ sym same) j)) ∙ (λ j. Ok (same j))
again_one (x ∷ y ∷ vs) a v e is = absurd (cc)

pub second_value : (vs : List ℕ) (a v low high : ℕ) → one_of vs ≡ Ok a → (v ≡ a → ⊥) → low ≡ min a v → high ≡ max a v → one_of (with vs v) ≡ Err (Ambiguous low high)
second_value [] a v low high e n low_is high_is = absurd (cc)
second_value (x ∷ []) a v low high e n low_is high_is =
    let same : x ≡ a = cc in
    ⊎_elim
    (λ lt. (λ j. one_of (at_place x [] v Less (omega (arith, same)) j)) ∙ (let p : v ≡ low = omega arith in let q : x ≡ high = omega (arith, same) in λ j. Err (Ambiguous (p j) (q j))))
    (λ le. (λ j. one_of (at_place x [] v Greater (omega (arith, same)) j)) ∙ (let p : x ≡ low = omega (arith, same) in let q : v ≡ high = omega arith in λ j. Err (Ambiguous (p j) (q j))))
    (cases_lt v a)
second_value (x ∷ y ∷ vs) a v low high e n low_is high_is = absurd (cc)

pub again_two : (vs : List ℕ) (a b v : ℕ) → one_of vs ≡ Err (Ambiguous a b) → v ≡ a → one_of (with vs v) ≡ Err (Ambiguous a b)
again_two [] a b v e is = absurd (cc)
again_two (x ∷ []) a b v e is = absurd (cc)
again_two (x ∷ y ∷ vs) a b v e is =
    let same : x ≡ a = cc in
    (λ j. one_of (at_place x (y ∷ vs) v Equal (is ∙ sym same) j)) ∙ e

pub lower_value : (vs : List ℕ) (a b v : ℕ) → one_of vs ≡ Err (Ambiguous a b) → v < a → one_of (with vs v) ≡ Err (Ambiguous v a)
lower_value [] a b v e l = absurd (cc)
lower_value (x ∷ []) a b v e l = absurd (cc)
lower_value (x ∷ y ∷ vs) a b v e l =
    let same : x ≡ a = cc in
    (λ j. one_of (at_place x (y ∷ vs) v Less (omega (arith, same)) j)) ∙ (λ j. Err (Ambiguous v (same j)))

pub higher_value : (vs : List ℕ) (a b v next : ℕ) → one_of vs ≡ Err (Ambiguous a b) → a < v → next ≡ min b v → one_of (with vs v) ≡ Err (Ambiguous a next)
higher_value [] a b v next e l is = absurd (cc)
higher_value (x ∷ []) a b v next e l is = absurd (cc)
higher_value (x ∷ y ∷ vs) a b v next e l is =
    let same : x ≡ a = cc in
    let other : y ≡ b = cc in
    let past : one_of (with (x ∷ y ∷ vs) v) ≡ one_of (x ∷ with (y ∷ vs) v) = λ j. one_of (at_place x (y ∷ vs) v Greater (omega (arith, same)) j) in
    ⊎_elim
    (λ lt. past ∙ (λ j. one_of (x ∷ at_place y vs v Less lt j)) ∙ (let q : v ≡ next = omega (arith, other) in λ j. Err (Ambiguous (same j) (q j))))
    (λ le. past ∙ no_lower x y vs v le ∙ (let q : y ≡ next = omega (arith, other) in λ j. Err (Ambiguous (same j) (q j))))
    (cases_lt v y)
