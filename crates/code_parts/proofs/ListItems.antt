-- Items of lists.
use Rattle.std.proofs.Common.{◌≡◌, ◌⊎◌, ℕ, zero, suc, ◌+◌, ◌<◌, Bool, true, false, cond, List, [], ◌∷◌, ◌++◌, map, filter, take, length, get_or, refl, sym, ap, ◌∙◌, arith, subst, Some, inl, inr}
use Rattle.std.specs.Prelude.{slice_get}
use Rattle.std.specs.List.{Contains, list_any}
use Rattle.std.proofs.lemmas.Option.{get_or_from_slice_get}
use Rattle.code_parts.proofs.AnyOf.{slice-below}
use Rattle.code_parts.proofs.FlowGraph.{any-at}
use Rattle.code_parts.proofs.Lists.{contains-cases, later}

pub contained : {A : Type 0} (xs : List A) (k : ℕ) (d : A) → k < length xs → Contains xs (get_or xs k d)
contained [] k d lt = absurd (omega arith)
contained (x ∷ xs) zero d lt = (0, omega arith, refl)
contained (x ∷ xs) (suc k) d lt = later x xs (get_or xs k d) (contained xs k d (omega (arith, lt)))

pub held : {A : Type 0} (P : A → Type 0) (xs : List A) (x : A) → ((k : ℕ) (d : A) → k < length xs → P (get_or xs k d)) → Contains xs x → P x
held P xs x all c = subst P c.2 (all c.0 x c.1)

pub in-taken : {A : Type 0} (xs : List A) (i : ℕ) (x : A) → Contains (take i xs) x → Contains xs x
in-taken [] zero x c = absurd (omega (arith, c.1))
in-taken [] (suc i) x c = absurd (omega (arith, c.1))
in-taken (y ∷ xs) zero x c = absurd (omega (arith, c.1))
in-taken (y ∷ xs) (suc i) x c = contains-cases y (take i xs) x c (λ e. (0, omega arith, e)) (λ d. later y xs x (in-taken xs i x d))

pub in-push : {A : Type 0} (xs : List A) (y x : A) → Contains (xs ++ y ∷ []) x → Contains xs x ⊎ (y ≡ x)
in-push [] y x c = contains-cases y [] x c (λ e. inr e) (λ d. inl d)
in-push (z ∷ xs) y x c = contains-cases z (xs ++ y ∷ []) x c (λ e. inl (0, omega arith, e)) (λ d. elim (in-push xs y x d) [ inl r ↦ inl (later z xs x r) | inr e ↦ inr e ])

pub in-map : {A B : Type 0} (h : A → B) (xs : List A) (x : A) → Contains xs x → Contains (map h xs) (h x)
in-map h [] x (k, lt, at) = absurd (omega (arith, lt))
in-map h (y ∷ ys) x (zero, lt, at) = (0, omega arith, ap h at)
in-map h (y ∷ ys) x (suc k, lt, at) = let r = in-map h ys x (k, omega (arith, lt), at) in (suc r.0, omega (arith, r.1), r.2)

pub out-map : {A B : Type 0} (h : A → B) (xs : List A) (y : B) → Contains (map h xs) y → (x : A) × Contains xs x × (h x ≡ y)
out-map h [] y (k, lt, at) = absurd (omega (arith, lt))
out-map h (x ∷ xs) y (zero, lt, at) = (x, (0, omega arith, refl), at)
out-map h (x ∷ xs) y (suc k, lt, at) = let r = out-map h xs y (k, omega (arith, lt), at) in (r.0, (suc r.1.0, omega (arith, r.1.1), r.1.2), r.2)

pub slice-contains : {A : Type 0} (xs : List A) (k : ℕ) (x : A) → slice_get xs k ≡ Some x → Contains xs x
slice-contains xs k x e = (k, slice-below xs k x e, get_or_from_slice_get xs k x x e)

pub contains-slice : {A : Type 0} (xs : List A) (x : A) → Contains xs x → (k : ℕ) × (slice_get xs k ≡ Some x)
contains-slice [] x (k, lt, at) = absurd (omega (arith, lt))
contains-slice (y ∷ xs) x (zero, lt, at) = (0, ap Some at)
contains-slice (y ∷ xs) x (suc k, lt, at) = let r = contains-slice xs x (k, omega (arith, lt), at) in (suc r.0, r.1)

pub slice-unmapped : {A B : Type 0} (h : A → B) (xs : List A) (k : ℕ) (y : B) → slice_get (map h xs) k ≡ Some y → (x : A) × (slice_get xs k ≡ Some x) × (h x ≡ y)
slice-unmapped h [] k y e = absurd (cc)
slice-unmapped h (x ∷ xs) zero y e = let same : h x ≡ y = cc in (x, refl, same)
slice-unmapped h (x ∷ xs) (suc k) y e = slice-unmapped h xs k y e

pub slice-middle : {A : Type 0} (xs : List A) (y : A) (ys : List A) → slice_get (xs ++ y ∷ ys) (length xs) ≡ Some y
slice-middle [] y ys = refl
slice-middle (x ∷ xs) y ys = slice-middle xs y ys

pub slice-front : {A : Type 0} (xs ys : List A) (k : ℕ) → k < length xs → slice_get (xs ++ ys) k ≡ slice_get xs k
slice-front [] ys k lt = absurd (omega arith)
slice-front (x ∷ xs) ys zero lt = refl
slice-front (x ∷ xs) ys (suc k) lt = slice-front xs ys k (omega (arith, lt))

pub slice-behind : {A : Type 0} (xs ys : List A) (k : ℕ) → slice_get (xs ++ ys) (length xs + k) ≡ slice_get ys k
slice-behind [] ys k = let same : 0 + k ≡ k = omega arith in ap (slice_get ys) same
slice-behind (x ∷ xs) ys k = let same : suc (length xs) + k ≡ suc (length xs + k) = omega arith in ap (slice_get (x ∷ (xs ++ ys))) same ∙ slice-behind xs ys k

pub split-last : {A : Type 0} (x : A) (xs : List A) → (front : List A) × (last : A) × (x ∷ xs ≡ front ++ last ∷ [])
split-last x [] = ([], x, refl)
split-last x (y ∷ ys) = let r = split-last y ys in (x ∷ r.0, r.1, ap (λ zs. x ∷ zs) r.2)

pub any-of : {A : Type 0} (p : A → Bool) (xs : List A) (x : A) → Contains xs x → p x ≡ true → list_any p xs ≡ true
any-of p xs x c e = any-at p xs c.0 x c.1 (ap p c.2 ∙ e)

pub filter-more : (p q : ℕ → Bool) → ((r : ℕ) → p r ≡ true → q r ≡ true) → (xs : List ℕ) (r : ℕ) → Contains (filter p xs) r → Contains (filter q xs) r
filter-more p q on [] r c = c
filter-more p q on (x ∷ xs) r c = go (p x) refl (λ d. filter-more p q on xs r d) c
  where
    put : (b : Bool) → Contains (filter q xs) r → Contains (cond b (x ∷ filter q xs) (filter q xs)) r
    put true d = later x (filter q xs) r d
    put false d = d

    go : (b : Bool) → p x ≡ b → (Contains (filter p xs) r → Contains (filter q xs) r) → Contains (cond b (x ∷ filter p xs) (filter p xs)) r → Contains (cond (q x) (x ∷ filter q xs) (filter q xs)) r
    go true e rest c =
        subst (λ b. Contains (cond b (x ∷ filter q xs) (filter q xs)) r) (sym (on x e))
        (contains-cases x (filter p xs) r c (λ same. (0, omega arith, same)) (λ d. later x (filter q xs) r (rest d)))
    go false e rest c = put (q x) (rest c)
