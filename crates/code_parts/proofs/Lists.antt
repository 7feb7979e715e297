-- Lists, and registers that rise.
use Rattle.std.proofs.Common.{◌≡◌, ℕ, zero, suc, ◌+◌, ◌<◌, ◌≤◌, List, [], ◌∷◌, ◌++◌, map, length, Bool, true, false, cond, eqb, refl, sym, ap, subst, arith, Some, eqb-true, eq-eqb, ne_eqb, Contains, ◌||◌, Option, None}
use Rattle.std.specs.Prelude.{slice_get, option_map}
use Rattle.std.specs.List.{list_any}
use Rattle.tailrec_lang.specs.Registers.{AreRegistersFrom}
use Rattle.code_parts.specs.Bodies.{index_of}

-- ---- lists

pub here : {A : Type 0} (x : A) (xs : List A) → Contains (x ∷ xs) x
here x xs = (0, omega arith, refl)

pub later : {A : Type 0} (y : A) (xs : List A) (x : A) → Contains xs x → Contains (y ∷ xs) x
later y xs x c = (suc c.0, omega (arith, c.1), c.2)

pub contains-cases : {A B : Type 0} (y : A) (xs : List A) (x : A) → Contains (y ∷ xs) x → (y ≡ x → B) → (Contains xs x → B) → B
contains-cases y xs x (zero, lt, at) one two = one at
contains-cases y xs x (suc k, lt, at) one two = two (k, omega (arith, lt), at)

pub length-map : {A B : Type 0} (h : A → B) (xs : List A) → length (map h xs) ≡ length xs
length-map h [] = refl
length-map h (x ∷ xs) = ap suc (length-map h xs)

pub slice-mapped : {A B : Type 0} (h : A → B) (xs : List A) (k : ℕ) (x : A) → slice_get xs k ≡ Some x → slice_get (map h xs) k ≡ Some (h x)
slice-mapped h [] k x e = absurd (cc)
slice-mapped h (y ∷ xs) zero x e = let same : y ≡ x = cc in ap (λ z. Some (h z)) same
slice-mapped h (y ∷ xs) (suc k) x e = slice-mapped h xs k x e

pub slice-there : {A : Type 0} (xs : List A) (k : ℕ) → k < length xs → (x : A) × (slice_get xs k ≡ Some x)
slice-there [] k lt = absurd (omega arith)
slice-there (x ∷ xs) zero lt = (x, refl)
slice-there (x ∷ xs) (suc k) lt = slice-there xs k (omega (arith, lt))

-- ---- registers rise

pub in_range : (least : ℕ) (rs : List ℕ) (r : ℕ) → AreRegistersFrom least rs → Contains rs r → (least ≤ r) × (r ≤ 31)
in_range least [] r rise c = absurd (omega (arith, c.1))
in_range least (q ∷ rs) r rise (zero, lt, at) = let same : q ≡ r = at in (subst (λ x. least ≤ x) same rise.0, subst (λ x. x ≤ 31) same rise.1)
in_range least (q ∷ rs) r rise (suc k, lt, at) = let rest = in_range (q + 1) rs r rise.2 (k, omega (arith, lt), at) in (omega (arith, rest.0, rise.0), rest.1)

pub rising-short : (least : ℕ) (rs : List ℕ) → least ≤ 32 → AreRegistersFrom least rs → length rs + least ≤ 32
rising-short least [] le h = omega (arith, le)
rising-short least (r ∷ rs) le h =
    let low = h.0 in
    let high = h.1 in
    let rest = rising-short (r + 1) rs (omega (arith, high)) h.2 in
    omega (arith, low, rest)

-- the register is in the list
abbrev pub is_in : List ℕ → ℕ → Bool
is_in xs r = list_any (λ q. eqb q r) xs

pub in-true : (xs : List ℕ) (r : ℕ) → Contains xs r → is_in xs r ≡ true
in-true [] r c = absurd (omega (arith, c.1))
in-true (x ∷ xs) r c = contains-cases x xs r c (λ e. by_first (eqb x r) (eq-eqb x r e)) (λ d. by_rest (eqb x r) (in-true xs r d))
  where
    by_first : (b : Bool) → b ≡ true → (b || is_in xs r) ≡ true
    by_first true e = refl
    by_first false e = absurd (cc)

    by_rest : (b : Bool) → is_in xs r ≡ true → (b || is_in xs r) ≡ true
    by_rest true e = refl
    by_rest false e = e

pub in-false : (xs : List ℕ) (r : ℕ) → (Contains xs r → ⊥) → is_in xs r ≡ false
in-false [] r no_one = refl
in-false (x ∷ xs) r no_one =
    let head : eqb x r ≡ false = ne_eqb x r (λ e. no_one (0, omega arith, e)) in
    let rest = in-false xs r (λ c. no_one (later x xs r c)) in
    λ i. head i || rest i

pub in-contains : (xs : List ℕ) (r : ℕ) → is_in xs r ≡ true → Contains xs r
in-contains [] r e = absurd (cc)
in-contains (x ∷ xs) r e = go (λ e. in-contains xs r e) (eqb x r) refl e
  where
    go : (is_in xs r ≡ true → Contains xs r) → (b : Bool) → eqb x r ≡ b → (b || is_in xs r) ≡ true → Contains (x ∷ xs) r
    go on true is e = (0, omega arith, eqb-true x r is)
    go on false is e = later x xs r (on e)

-- ---- where nodes stand in lists

pub index-at : (xs : List ℕ) (n k : ℕ) → index_of xs n ≡ Some k → slice_get xs k ≡ Some n
index-at [] n k e = absurd (cc)
index-at (x ∷ xs) n k e = go (λ j at. index-at xs n j at) (eqb n x) refl (index_of xs n) refl e
  where
    go : ((j : ℕ) → index_of xs n ≡ Some j → slice_get xs j ≡ Some n) → (b : Bool) → eqb n x ≡ b → (o : Option ℕ) → index_of xs n ≡ o → cond b (Some 0) (option_map suc o) ≡ Some k → slice_get (x ∷ xs) k ≡ Some n
    go on true is o at e = let zero_is : 0 ≡ k = cc in subst (λ j. slice_get (x ∷ xs) j ≡ Some n) zero_is (ap Some (sym (eqb-true n x is)))
    go on false is None at e = absurd (cc)
    go on false is (Some j) at e = let more : suc j ≡ k = cc in subst (λ i. slice_get (x ∷ xs) i ≡ Some n) more (on j at)

-- a node in the list has an index
pub index-some : (xs : List ℕ) (n k : ℕ) → slice_get xs k ≡ Some n → (j : ℕ) × (index_of xs n ≡ Some j)
index-some [] n k e = absurd (cc)
index-some (x ∷ xs) n zero e =
    let same : x ≡ n = cc in
    (0, λ i. cond (eq-eqb n x (sym same) i) (Some 0) (option_map suc (index_of xs n)))
index-some (x ∷ xs) n (suc k) e = go (eqb n x) (index-some xs n k e)
  where
    go : (b : Bool) → (j : ℕ) × (index_of xs n ≡ Some j) → (j : ℕ) × (cond b (Some 0) (option_map suc (index_of xs n)) ≡ Some j)
    go true r = (0, refl)
    go false r = (suc r.0, ap (option_map suc) r.1)

pub slice-map : {A B : Type 0} (h : A → B) (more : List B) (xs : List A) (k : ℕ) (x : A) → slice_get xs k ≡ Some x → slice_get (map h xs ++ more) k ≡ Some (h x)
slice-map h more [] k x e = absurd (cc)
slice-map h more (y ∷ xs) zero x e = let same : y ≡ x = cc in ap (λ z. Some (h z)) same
slice-map h more (y ∷ xs) (suc k) x e = slice-map h more xs k x e
