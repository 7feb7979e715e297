-- Functions and the addresses that are reached in them, as pairs; different things among few are few.
use Rattle.std.proofs.Common.{◌≡◌, ◌≢◌, ◌⊎◌, ℕ, zero, suc, ◌+◌, ◌-◌, ◌<◌, ◌≤◌, List, [], ◌∷◌, ◌++◌, length, get_or, map, inl, inr, refl, sym, ◌∙◌, arith, subst, ap, length-append, true}
use Rattle.std.specs.List.{All, Contains}
use Rattle.std.proofs.lemmas.Bool.{cases_lt}
use Rattle.std.proofs.lemmas.List.{get_or-map, get_or_append_left, get_or-append_right, get_or_default, length-map}
use Rattle.std.proofs.lemmas.List.Elements.{Contains-append_cases, Contains-append_left, Contains-append_right}
use Rattle.rv_words.specs.Bytes.{Bytes}
use Rattle.flow_graph.specs.Flow.{Next}
use Rattle.flow_graph.specs.Walks.{Reaches}
use Rattle.flow_graph.specs.Reach.{IsReach}
use Rattle.flow_graph.proofs.VisitedLemmas.{few_from_distinct}
use Rattle.loop_forest.proofs.FoundLemmas.{different_distinct}
use Rattle.code_parts.specs.Calls.{IsFunction}
use Rattle.code_parts.specs.Causes.{SizesOver}

-- ---- different things of a list are no more than it has

pub first_in : {A : Type 0} (x : A) (xs : List A) → Contains (x ∷ xs) x
first_in x xs = (0, omega arith, refl)

pub later_in : {A : Type 0} (x : A) (xs : List A) (z : A) → Contains xs z → Contains (x ∷ xs) z
later_in x xs z c = (suc c.0, omega (arith, c.1), c.2)

pub front_cases : {A : Type 0} (x : A) (xs : List A) (q : A) → Contains (x ∷ xs) q → (x ≡ q) ⊎ Contains xs q
front_cases x xs q (zero, l, e) = inl e
front_cases x xs q (suc k, l, e) = inr (k, omega arith, e)

places : {A : Type 0} (xs ys : List A) → ((x : A) → Contains xs x → Contains ys x) → List ℕ
places [] ys sub = []
places (x ∷ xs) ys sub = (sub x (first_in x xs)).0 ∷ places xs ys (λ z c. sub z (later_in x xs z c))

places_long : {A : Type 0} (xs ys : List A) (sub : (x : A) → Contains xs x → Contains ys x) → length (places xs ys sub) ≡ length xs
unfolding places
places_long [] ys sub = refl
places_long (x ∷ xs) ys sub = ap suc (places_long xs ys (λ z c. sub z (later_in x xs z c)))

places_at : {A : Type 0} (xs ys : List A) (sub : (x : A) → Contains xs x → Contains ys x) (k : ℕ) (d : A) → k < length xs
    → (get_or (places xs ys sub) k 0 < length ys) × (get_or ys (get_or (places xs ys sub) k 0) d ≡ get_or xs k d)
unfolding places
places_at [] ys sub k d l = absurd (omega arith)
places_at (x ∷ xs) ys sub zero d l = let c = sub x (first_in x xs) in (c.1, get_or_default ys c.0 d x c.1 ∙ c.2)
places_at (x ∷ xs) ys sub (suc k) d l = places_at xs ys (λ z c. sub z (later_in x xs z c)) k d (omega arith)

pub few_among : {A : Type 0} (d : A) (xs ys : List A) → ((j k : ℕ) → j < k → k < length xs → get_or xs j d ≢ get_or xs k d) → ((x : A) → Contains xs x → Contains ys x) → length xs ≤ length ys
few_among d xs ys differ sub =
    let ks : List ℕ = places xs ys sub in
    let long : length ks ≡ length xs = places_long xs ys sub in
    let apart : (j k : ℕ) → j < k → k < length ks → get_or ks j 0 ≢ get_or ks k 0 = λ j k lt h q.
    differ j k lt (omega arith) (sym (places_at xs ys sub j d (omega arith)).1 ∙ ap (λ z. get_or ys z d) q ∙ (places_at xs ys sub k d (omega arith)).1) in
    let below : All (λ x. x < length ys) ks = λ k e l. subst (λ (z : ℕ). z < length ys) (get_or_default ks k 0 e l) (places_at xs ys sub k d (omega arith)).0 in
    let le = few_from_distinct ks (different_distinct ks apart) (length ys) below in
    omega arith

-- the item at a place
pub got : {A : Type 0} (xs : List A) (k : ℕ) → k < length xs → (x : A) × ((d : A) → get_or xs k d ≡ x)
got [] k l = absurd (omega arith)
got (x ∷ xs) zero l = (x, λ d. refl)
got (x ∷ xs) (suc k) l = got xs k (omega arith)

-- ---- pairs

-- n is how many pairs there are of a function of D and an address that is reached in it
pub record Pairs (code : Bytes) (D : ℕ → Type 0) (n : ℕ) : Type 0 where
  pub some : List (ℕ × ℕ)
  pub many : length some ≡ n
  pub each : (q : ℕ × ℕ) → Contains some q → D q.0 × Reaches (Next true code) q.0 q.1
  pub all : (f a : ℕ) → D f → Reaches (Next true code) f a → Contains some (f, a)
  pub different : (j k : ℕ) → j < k → k < length some → get_or some j (0, 0) ≢ get_or some k (0, 0)

pub pairs_none : (code : Bytes) (D : ℕ → Type 0) → ((f : ℕ) → D f → ⊥) → Pairs code D 0
pairs_none code D none = record {
  some = [];
  many = refl;
  each = λ q c. absurd (omega (arith, c.1));
  all = λ f a d w. absurd (none f d);
  different = λ j k lt l. absurd (omega arith);
}

-- D and D' differ in the function g alone
pub record AddsTo (D : ℕ → Type 0) (g : ℕ) (D' : ℕ → Type 0) : Type 0 where
  pub old : (f : ℕ) → D f → D' f
  pub new : D' g
  pub only : (f : ℕ) → D' f → D f ⊎ (g ≡ f)

pair : ℕ → ℕ → ℕ × ℕ
pair g a = (g, a)

-- the pairs of the function g and each of these addresses
pub row_of : ℕ → List ℕ → List (ℕ × ℕ)
row_of g N = map (pair g) N

pub row_long : (g : ℕ) (N : List ℕ) → length (row_of g N) ≡ length N
unfolding row_of
row_long g N = length-map N (pair g)

pub in_row : (g : ℕ) (N : List ℕ) (q : ℕ × ℕ) → Contains (row_of g N) q → (g ≡ q.0) × Contains N q.1
unfolding row_of pair
in_row g [] q c = absurd (omega (arith, c.1))
in_row g (a ∷ N) q c = elim (front_cases (g, a) (row_of g N) q c) [
  | inl e ↦ (ap (λ p. p.0) e, (0, omega arith, ap (λ p. p.1) e))
  | inr d ↦ let r = in_row g N q d in (r.0, later_in a N q.1 r.1)
]

pub to_row : (g : ℕ) (N : List ℕ) (a : ℕ) → Contains N a → Contains (row_of g N) (g, a)
unfolding row_of pair
to_row g [] a c = absurd (omega (arith, c.1))
to_row g (b ∷ N) a c = elim (front_cases b N a c) [
  | inl e ↦ (0, omega arith, ap (pair g) e)
  | inr d ↦ later_in (g, b) (row_of g N) (g, a) (to_row g N a d)
]

pub row_at : (g : ℕ) (N : List ℕ) (k : ℕ) → k < length N → get_or (row_of g N) k (0, 0) ≡ (g, get_or N k 0)
unfolding row_of pair
row_at g N k l = get_or-map (pair g) N k 0 (0, 0) l

pub pairs_more : (code : Bytes) (D D' : ℕ → Type 0) (g : ℕ) (n : ℕ) (N : List ℕ) → Pairs code D n → AddsTo D g D' → (D g → ⊥) → IsReach (Next true code) g N → Pairs code D' (n + length N)
pairs_more code D D' g n N p adds fresh reach = record {
  some = p.some ++ row;
  many = length-append p.some row ∙ (λ i. p.many i + long i);
  each = λ q c. elim (Contains-append_cases p.some row q c) [
    | inl d ↦ (adds.old q.0 (p.each q d).0, (p.each q d).1)
    | inr d ↦ let r = in_row g N q d in (subst D' r.0 adds.new, subst (λ (f : ℕ). Reaches (Next true code) f q.1) r.0 (reach.reached q.1 r.1))
  ];
  all = λ f a d w. elim (adds.only f d) [
    | inl o ↦ Contains-append_left p.some row (f, a) (p.all f a o w)
    | inr e ↦ Contains-append_right p.some row (f, a)
        (subst (λ (h : ℕ). Contains row (h, a)) e (to_row g N a (reach.all a (subst (λ (h : ℕ). Reaches (Next true code) h a) (sym e) w))))
  ];
  different = λ j k lt l q. elim (cases_lt k (length p.some)) [
    | inl below ↦ p.different j k lt below (sym (get_or_append_left p.some row (0, 0) j (omega arith)) ∙ q ∙ get_or_append_left p.some row (0, 0) k below)
    | inr past ↦
        let within : k - length p.some < length N = omega (arith, length-append p.some row, long) in
        let at_k : get_or (p.some ++ row) k (0, 0) ≡ (g, get_or N (k - length p.some) 0) = get_or-append_right p.some row (length p.some) k (0, 0) refl past ∙ row_at g N (k - length p.some) within in
        elim (cases_lt j (length p.some)) [
          | inl first ↦
              let at_j : get_or p.some j (0, 0) ≡ (g, get_or N (k - length p.some) 0) = sym (get_or_append_left p.some row (0, 0) j first) ∙ q ∙ at_k in
              fresh (subst D (ap (λ z. z.0) at_j) (p.each (get_or p.some j (0, 0)) (j, first, get_or_default p.some j (get_or p.some j (0, 0)) (0, 0) first)).0)
          | inr second ↦
              let at_j : get_or (p.some ++ row) j (0, 0) ≡ (g, get_or N (j - length p.some) 0) = get_or-append_right p.some row (length p.some) j (0, 0) refl second ∙ row_at g N (j - length p.some) (omega arith) in
              reach.different (j - length p.some) (k - length p.some) (omega arith) within (ap (λ z. z.1) (sym at_j ∙ q ∙ at_k))
        ]
  ];
}
  where
    row : List (ℕ × ℕ)
    row = row_of g N

    long : length row ≡ length N
    long = row_long g N

-- where there are more pairs, the sizes sum to more
pub sizes_over : (code : Bytes) (D : ℕ → Type 0) (e n m : ℕ) → Pairs code D n → ((f : ℕ) → D f → IsFunction code e f) → m < n → SizesOver code e m
sizes_over code D e n m p are lt = record {
  some = p.some;
  over = omega (arith, p.many);
  reached = λ q c. (are q.0 (p.each q c).0, (p.each q c).1);
  different = p.different;
}

-- where there are at most so many, they don't
pub sizes_small : (code : Bytes) (D : ℕ → Type 0) (e n m : ℕ) → Pairs code D n → ((f : ℕ) → IsFunction code e f → D f) → n ≤ m → SizesOver code e m → ⊥
sizes_small code D e n m p all le o =
    let few = few_among (0, 0) o.some p.some o.different (λ q c. let r = o.reached q c in p.all q.0 q.1 (all q.0 r.0) r.1) in
    let over = o.over in
    omega (arith, p.many)

-- the sizes of a function of e sum to no more than those of e
pub sizes_up : (code : Bytes) (e f n : ℕ) → ((g : ℕ) → IsFunction code f g → IsFunction code e g) → SizesOver code f n → SizesOver code e n
sizes_up code e f n up o = record { some = o.some; over = o.over; reached = λ q c. (up q.0 (o.reached q c).0, (o.reached q c).1); different = o.different }
