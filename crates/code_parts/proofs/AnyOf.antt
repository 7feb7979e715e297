-- What is found among the instructions of a graph one by one.
use Rattle.std.proofs.Common.{◌≡◌, ℕ, zero, suc, ◌+◌, ◌<◌, Bool, true, false, ◌||◌, List, [], ◌∷◌, length, take, Some, refl, sym, ap, ◌∙◌, arith}
use Rattle.std.specs.Prelude.{slice_get}
use Rattle.std.specs.List.{list_any}
use Rattle.std.proofs.lemmas.Option.{get_or_from_slice_get}
use Rattle.code_parts.proofs.FlowGraph.{any-at}

or-none : (b : Bool) → b ≡ false → (c : Bool) → (b || c) ≡ c
or-none true e c = absurd (cc)
or-none false e c = refl

pub slice-below : {A : Type 0} (xs : List A) (n : ℕ) (x : A) → slice_get xs n ≡ Some x → n < length xs
slice-below [] n x e = absurd (cc)
slice-below (y ∷ xs) zero x e = omega arith
slice-below (y ∷ xs) (suc n) x e = let lt = slice-below xs n x e in omega (arith, lt)

pub none_of_none : {A : Type 0} (p : A → Bool) (xs : List A) → list_any p (take 0 xs) ≡ false
none_of_none p xs = refl

none-with : {A : Type 0} (p : A → Bool) (xs : List A) (n : ℕ) (x : A) → Some x ≡ slice_get xs n → p x ≡ false → list_any p (take n xs) ≡ false → list_any p (take (suc n) xs) ≡ false
none-with p [] n x is e h = absurd (cc)
none-with p (y ∷ xs) zero x is e h = let same : y ≡ x = cc in or-none (p y) (ap p same ∙ e) false
none-with p (y ∷ xs) (suc n) x is e h = go (p y) h (λ r. none-with p xs n x is e r)
  where
    go : (b : Bool) → (b || list_any p (take n xs)) ≡ false → (list_any p (take n xs) ≡ false → list_any p (take (suc n) xs) ≡ false) → (b || list_any p (take (suc n) xs)) ≡ false
    go true h on = absurd (cc)
    go false h on = on h

pub none_with : {A : Type 0} (p : A → Bool) (xs : List A) (n : ℕ) (x : A) → Some x ≡ slice_get xs n → p x ≡ false → list_any p (take n xs) ≡ false → list_any p (take (n + 1) xs) ≡ false
none_with p xs n x is e h = let next : suc n ≡ n + 1 = omega arith in (λ i. list_any p (take (sym next i) xs)) ∙ none-with p xs n x is e h

pub found_one : {A : Type 0} (p : A → Bool) (xs : List A) (n : ℕ) (x : A) → Some x ≡ slice_get xs n → p x ≡ true → true ≡ list_any p xs
found_one p xs n x is e = sym (any-at p xs n x (slice-below xs n x (sym is)) (ap p (get_or_from_slice_get xs n x x (sym is)) ∙ e))

take-whole : {A : Type 0} (xs : List A) (n : ℕ) → length xs ≡ n → take n xs ≡ xs
take-whole [] zero e = refl
take-whole [] (suc n) e = refl
take-whole (x ∷ xs) zero e = absurd (omega arith)
take-whole (x ∷ xs) (suc n) e = ap (λ ys. x ∷ ys) (take-whole xs n (omega (arith, e)))

pub none_at_all : {A : Type 0} (p : A → Bool) (xs : List A) (n : ℕ) → length xs ≡ n → list_any p (take n xs) ≡ false → false ≡ list_any p xs
none_at_all p xs n e h = sym h ∙ ap (list_any p) (take-whole xs n e)
