-- How many different things of a list there are at most.
use Rattle.std.specs.Prelude.{slice_get}
use Rattle.std.specs.List.{Contains}
use Rattle.std.specs.List.Sorted.{IsStrictlySortedBy}
use Rattle.std.specs.Ordering.{nat_cmp}
use Rattle.std.proofs.Common.{◌≡◌, ℕ, zero, suc, ◌*◌, ◌≤◌, List, [], ◌∷◌, ◌++◌, Some, length, map, take, refl, ap, subst, inl, inr, arith, length-append, ◌<◌, get_or}
use Rattle.std.proofs.Math.Nat.{suc-mul}
use Rattle.std.proofs.lemmas.List.{length_push, length-map}
use Rattle.std.proofs.lemmas.List.Elements.{Contains-push_cases, Contains-append_left, Contains-append_right, Contains-append_cases}
use Rattle.std.proofs.lemmas.Bool.{cases_order}
use Rattle.std.proofs.lemmas.Map.Keys.{below_from_sorted}
use Rattle.term_arena.proofs.Places.{split_at, contains_at, at_contains, map-at}

-- no more than a list has, where all images are in it, and no two the same
pub few : {A B : Type 0} (f : A → B) (xs : List A) (ys : List B)
    → ((i j : ℕ) (x y : A) → slice_get xs i ≡ Some x → slice_get xs j ≡ Some y → f x ≡ f y → i ≡ j)
    → ((x : A) → Contains xs x → Contains ys (f x)) → length xs ≤ length ys
few f [] ys apart h = omega arith
few {A} {B} f (x ∷ xs) ys apart h =
    let c = at_contains ys (f x) (h x (contains_at (x ∷ xs) zero x refl)) in
    let front : List B = take c.0 ys in
    let r = split_at ys c.0 (f x) c.1 in
    let still : (z : A) → Contains xs z → Contains (front ++ r.0) (f z) = λ z hz.
    let at = at_contains xs z hz in
    let there = subst (λ (l : List B). Contains l (f z)) r.1 (h z (contains_at (x ∷ xs) (suc at.0) z at.1)) in
    elim (Contains-append_cases (front ++ f x ∷ []) r.0 (f z) there) [
      | inl left ↦ elim (Contains-push_cases front (f x) (f z) left) [
        | inl before ↦ Contains-append_left front r.0 (f z) before
        | inr same ↦ let no : zero ≡ suc at.0 = apart zero (suc at.0) x z refl at.1 same in absurd (omega (arith, no))
      ]
      | inr right ↦ Contains-append_right front r.0 (f z) right
    ] in
    let rest = few f xs (front ++ r.0) (λ i j u v hi hj e. let s : suc i ≡ suc j = apart (suc i) (suc j) u v hi hj e in omega (arith, s)) still in
    let all : length ys ≡ length ((front ++ f x ∷ []) ++ r.0) = ap length r.1 in
    omega (arith, rest, all, length-append (front ++ f x ∷ []) r.0, length_push front (f x), length-append front r.0)

-- all pairs of two lists
pub pairs : {A B : Type 0} → List A → List B → List (A × B)
pairs [] zs = []
pairs (y ∷ ys) zs = map (λ z. (y, z)) zs ++ pairs ys zs

pub count_of_pairs : {A B : Type 0} (ys : List A) (zs : List B) → length (pairs ys zs) ≡ length ys * length zs
unfolding pairs
count_of_pairs [] zs = omega arith
count_of_pairs {A} {B} (y ∷ ys) zs =
    let f : B → A × B = λ z. (y, z) in
    omega (arith, length-append (map f zs) (pairs ys zs), length-map zs f, count_of_pairs ys zs, suc-mul (length ys) (length zs))

pub in_pairs : {A B : Type 0} (ys : List A) (zs : List B) (i : ℕ) (y : A) (z : B) → slice_get ys i ≡ Some y → Contains zs z → Contains (pairs ys zs) (y, z)
unfolding pairs
in_pairs [] zs i y z e c = cc
in_pairs {A} {B} (x ∷ ys) zs zero y z e c =
    let d : x ≡ y = cc in
    let f : B → A × B = λ w. (x, w) in
    let at = at_contains zs z c in
    subst (λ (v : A). Contains (map f zs ++ pairs ys zs) (v, z)) d (Contains-append_left (map f zs) (pairs ys zs) (x, z) (contains_at (map f zs) at.0 (x, z) (map-at f zs at.0 z at.1)))
in_pairs {A} {B} (x ∷ ys) zs (suc i) y z e c = Contains-append_right (map (λ w. (x, w)) zs) (pairs ys zs) (y, z) (in_pairs ys zs i y z e c)

-- ---- places of a list

pub within : {A : Type 0} (xs : List A) (k : ℕ) (x : A) → slice_get xs k ≡ Some x → k < length xs
within [] k x e = absurd (cc)
within (y ∷ ys) zero x e = omega arith
within (y ∷ ys) (suc k) x e = let rest = within ys k x e in omega (arith, rest)

pub read-at : {A : Type 0} (xs : List A) (k : ℕ) (x d : A) → slice_get xs k ≡ Some x → get_or xs k d ≡ x
read-at [] k x d e = absurd (cc)
read-at (y ∷ ys) zero x d e = cc
read-at (y ∷ ys) (suc k) x d e = read-at ys k x d e

-- in a list that rises a number has one place
pub one-place : (ks : List ℕ) (i j k : ℕ) → IsStrictlySortedBy nat_cmp ks → slice_get ks i ≡ Some k → slice_get ks j ≡ Some k → i ≡ j
one-place ks i j k o hi hj = elim (cases_order i j) [
  | inl same ↦ same
  | inr other ↦ elim other [ inl lt ↦ absurd (apart i j lt hi hj) | inr gt ↦ absurd (apart j i gt hj hi) ]
]
  where
    apart : (a b : ℕ) → a < b → slice_get ks a ≡ Some k → slice_get ks b ≡ Some k → ⊥
    apart a b lt ha hb =
        let rises = below_from_sorted ks a b 0 o lt (within ks b k hb) in
        let ka = read-at ks a k 0 ha in
        let kb = read-at ks b k 0 hb in
        omega (arith, rises, ka, kb)
