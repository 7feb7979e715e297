-- Numbers of a definition's terms, and items of lists.
use Rattle.std.proofs.Common.{◌≡◌, ℕ, zero, suc, ◌+◌, ◌-◌, ◌<◌, ◌≤◌, List, [], ◌∷◌, length, map, true, false, cond, nat_lt, get_or, Option, Some, None, option_map, slice_get, refl, sym, ap, ◌∙◌, arith}
use Rattle.std.specs.Prelude.{slice_set}
use Rattle.fun_laws.specs.Rewriting.{below_or}

-- ---- numbers below a count, or past it

pub below : {X : Type 0} (k n : ℕ) (f g : ℕ → X) → k < n → below_or k n f g ≡ f k
below k n f g h = let e : nat_lt k n ≡ true = grind (arith, h) in λ j. cond (e j) (f k) (g (k - n))

pub beyond : {X : Type 0} (k n i : ℕ) (f g : ℕ → X) → k ≡ n + i → below_or k n f g ≡ g i
beyond k n i f g h =
    let e : nat_lt k n ≡ false = grind (arith, h) in
    let d : k - n ≡ i = omega (arith, h) in
    (λ j. cond (e j) (f k) (g (k - n))) ∙ ap g d

pub numbered_apart : (k n : ℕ) (P : Type 0) → (k < n → P) → ((i : ℕ) → k ≡ n + i → P) → P
numbered_apart zero zero P f g = g 0 (omega arith)
numbered_apart zero (suc n) P f g = f (omega arith)
numbered_apart (suc k) zero P f g = g (suc k) (omega arith)
numbered_apart (suc k) (suc n) P f g = numbered_apart k n P (λ h. f (omega (arith, h))) (λ i h. g i (omega (arith, h)))

-- ---- items of lists

pub mapped_at : {A B : Type 0} (f : A → B) (xs : List A) (i : ℕ) → slice_get (map f xs) i ≡ option_map f (slice_get xs i)
mapped_at f [] i = refl
mapped_at f (x ∷ xs) zero = refl
mapped_at f (x ∷ xs) (suc i) = mapped_at f xs i

pub got-at : {A : Type 0} (xs : List A) (k : ℕ) (x : A) → k < length xs → x ≡ get_or xs k x → slice_get xs k ≡ Some x
got-at [] k x h is = absurd (omega (arith, h))
got-at (y ∷ xs) zero x h is = ap Some (sym is)
got-at (y ∷ xs) (suc k) x h is = got-at xs k x (omega (arith, h)) is

pub got : {A : Type 0} (xs : List A) (k : ℕ) (x : A) → true ≡ nat_lt k (length xs) → x ≡ get_or xs k x → slice_get xs k ≡ Some x
got xs k x h is = got-at xs k x (grind (arith, h)) is

pub set_beyond : {A : Type 0} (xs : List A) (k : ℕ) (x : A) → length xs ≤ k → slice_set xs k x ≡ xs
set_beyond [] k x h = refl
set_beyond (y ∷ xs) zero x h = absurd (omega (arith, h))
set_beyond (y ∷ xs) (suc k) x h = ap (λ zs. y ∷ zs) (set_beyond xs k x (omega (arith, h)))

pub set_mapped : {A B : Type 0} (f : A → B) (xs : List A) (k : ℕ) (x : A) → map f (slice_set xs k x) ≡ slice_set (map f xs) k (f x)
set_mapped f [] k x = refl
set_mapped f (y ∷ xs) zero x = refl
set_mapped f (y ∷ xs) (suc k) x = ap (λ zs. f y ∷ zs) (set_mapped f xs k x)

-- what an option's item was made from
pub made-some : {A B : Type 0} (f : A → B) (o : Option A) (y : B) → option_map f o ≡ Some y → (x : A) × (o ≡ Some x) × (f x ≡ y)
made-some f None y is = absurd (cc)
made-some f (Some x) y is = (x, refl, cc)
