-- Parts in their order, as they are listed and sorted.
use Rattle.std.proofs.Common.{◌≡◌, ◌≢◌, ℕ, zero, suc, ◌+◌, ◌-◌, ◌<◌, ◌≤◌, Bool, true, false, cond, eqb, List, [], ◌∷◌, ◌++◌, map, length, get_or, refl, sym, ap, subst, ◌∙◌, arith, Option, Some, inl, inr, append_assoc, append-nil, length-append, eq-eqb}
use Rattle.std.proofs.lemmas.Bool.{cases_eq, ne_eqb}
use Rattle.std.proofs.lemmas.List.{get_or_append_left, get_or-map}
use Rattle.std.proofs.lemmas.List.Edits.{length-swap, swapped_from_swap}
use Rattle.std.proofs.lemmas.List.Elements.{Contains-append_cases, Contains-append_left, Contains-append_right}
use Rattle.std.proofs.lemmas.List.Sorted.{All-permutation, Contains-permutation, IsPermutation-keeps, IsPermutation-map}
use Rattle.std.proofs.lemmas.Option.{get_or_from_slice_get}
use Rattle.std.proofs.Math.Seq.{get_or-append_seam}
use Rattle.std.specs.Prelude.{slice_get}
use Rattle.std.specs.List.{All, Contains, swap}
use Rattle.std.specs.List.Sorted.{IsPermutation}
use Rattle.flow_graph.specs.Graph.{GraphOf, IsFlow}
use Rattle.loop_forest.specs.Forest.{ForestOf, IsForestOf, depth_of, head_of, number_of}
use Rattle.code_parts.specs.declared.part.Part.{Part}
use Rattle.code_parts.specs.declared.part.Part.TheVariants.{Loop, Rest}
use Rattle.code_parts.specs.declared.order.Ranked.{Ranked}
use Rattle.code_parts.specs.Bodies.{Flow, own}
use Rattle.code_parts.specs.Flows.{alone, flow_of}
use Rattle.code_parts.specs.Graph.{IsPart}
use Rattle.code_parts.specs.Order.{AreParts, StandsBefore, weight}
use Rattle.code_parts.specs.inner.Ranks.{AreSorted, IsRanked, loops_to, rests_to}
use Rattle.code_parts.proofs.AnyOf.{slice-below}
use Rattle.loop_forest.proofs.Depths.{deeper, head-node, one-loop}
use Rattle.code_parts.proofs.Lists.{here, length-map}

-- ---- lists whose items are all different

abbrev pub OnePlace : {A : Type 0} → List A → Type 0
OnePlace {A} xs = (i j : ℕ) (d : A) → i < length xs → j < length xs → get_or xs i d ≡ get_or xs j d → i ≡ j

default : {A : Type 0} (xs : List A) (k : ℕ) (d e : A) → k < length xs → get_or xs k d ≡ get_or xs k e
default [] k d e lt = absurd (omega arith)
default (x ∷ xs) zero d e lt = refl
default (x ∷ xs) (suc k) d e lt = default xs k d e (omega (arith, lt))

one-push : {A : Type 0} (xs : List A) (x : A) → OnePlace xs → (Contains xs x → ⊥) → OnePlace (xs ++ x ∷ [])
one-push {A} xs x one new i j d low high same =
    let long : length (xs ++ x ∷ []) ≡ length xs + 1 = length-append xs (x ∷ []) in
    elim (cases_eq i (length xs)) [
      | inl e ↦ elim (cases_eq j (length xs)) [
        | inl f ↦ e ∙ sym f
        | inr f ↦ absurd (new (j, omega (arith, high, long, f), default xs j x d (omega (arith, high, long, f)) ∙ sym (left j (omega (arith, high, long, f))) ∙ sym same ∙ at i e))
      ]
      | inr e ↦ elim (cases_eq j (length xs)) [
        | inl f ↦ absurd (new (i, omega (arith, low, long, e), default xs i x d (omega (arith, low, long, e)) ∙ sym (left i (omega (arith, low, long, e))) ∙ same ∙ at j f))
        | inr f ↦ one i j d (omega (arith, low, long, e)) (omega (arith, high, long, f)) (sym (left i (omega (arith, low, long, e))) ∙ same ∙ left j (omega (arith, high, long, f)))
      ]
    ]
  where
    left : (k : ℕ) → k < length xs → get_or (xs ++ x ∷ []) k d ≡ get_or xs k d
    left k lt = get_or_append_left xs (x ∷ []) d k lt

    at : (k : ℕ) → k ≡ length xs → get_or (xs ++ x ∷ []) k d ≡ x
    at k e = ap (λ n. get_or (xs ++ x ∷ []) n d) e ∙ get_or-append_seam xs x [] d

-- where an item comes from, where those in two places were exchanged
abbrev from : ℕ → ℕ → ℕ → ℕ
from a b k = cond (eqb k a) b (cond (eqb k b) a k)

from-a : (a b k : ℕ) → k ≡ a → from a b k ≡ b
from-a a b k e = λ i. cond (eq-eqb k a e i) b (cond (eqb k b) a k)

from-b : (a b k : ℕ) → k ≢ a → k ≡ b → from a b k ≡ a
from-b a b k n e = (λ i. cond (ne_eqb k a n i) b (cond (eqb k b) a k)) ∙ (λ i. cond (eq-eqb k b e i) a k)

from-else : (a b k : ℕ) → k ≢ a → k ≢ b → from a b k ≡ k
from-else a b k n m = (λ i. cond (ne_eqb k a n i) b (cond (eqb k b) a k)) ∙ (λ i. cond (ne_eqb k b m i) a k)

from-below : (a b k n : ℕ) → a < n → b < n → k < n → from a b k < n
from-below a b k n low high lt = elim (cases_eq k a) [
  | inl e ↦ omega (arith, from-a a b k e, high)
  | inr n ↦ elim (cases_eq k b) [ inl e ↦ omega (arith, from-b a b k n e, low) | inr m ↦ omega (arith, from-else a b k n m, lt) ]
]

-- exchanging them again leads back
from-from : (a b k : ℕ) → from a b (from a b k) ≡ k
from-from a b k = elim (cases_eq k a) [
  | inl e ↦ ap (from a b) (from-a a b k e) ∙ at-b ∙ sym e
  | inr n ↦ elim (cases_eq k b) [
    | inl e ↦ ap (from a b) (from-b a b k n e) ∙ from-a a b a refl ∙ sym e
    | inr m ↦ ap (from a b) (from-else a b k n m) ∙ from-else a b k n m
  ]
]
  where
    at-b : from a b b ≡ a
    at-b = elim (cases_eq b a) [ inl e ↦ from-a a b b e ∙ e | inr n ↦ from-b a b b n refl ]

moved : {A : Type 0} (xs : List A) (a b : ℕ) (d : A) → a < length xs → b < length xs → (k : ℕ) → get_or (swap xs a b) k d ≡ get_or xs (from a b k) d
moved xs a b d low high k =
    let s = swapped_from_swap xs (swap xs a b) a b d low high refl in
    elim (cases_eq k a) [
      | inl e ↦ ap (λ n. get_or (swap xs a b) n d) e ∙ s.0 ∙ ap (λ n. get_or xs n d) (sym (from-a a b k e))
      | inr n ↦ elim (cases_eq k b) [
        | inl e ↦ ap (λ n. get_or (swap xs a b) n d) e ∙ s.1 ∙ ap (λ n. get_or xs n d) (sym (from-b a b k n e))
        | inr m ↦ s.2 k n m ∙ ap (λ n. get_or xs n d) (sym (from-else a b k n m))
      ]
    ]

one-swap : {A : Type 0} (xs : List A) (a b : ℕ) → a < length xs → b < length xs → OnePlace xs → OnePlace (swap xs a b)
one-swap xs a b low high one i j d lt less same =
    let long = length-swap xs a b in
    let e = one (from a b i) (from a b j) d (from-below a b i (length xs) low high (omega (arith, lt, long))) (from-below a b j (length xs) low high (omega (arith, less, long)))
    (sym (moved xs a b d low high i) ∙ same ∙ moved xs a b d low high j) in
    sym (from-from a b i) ∙ ap (from a b) e ∙ from-from a b j

one-permuted : {A : Type 0} (xs ys : List A) → IsPermutation xs ys → OnePlace xs → OnePlace ys
one-permuted xs ys h one = IsPermutation-keeps xs OnePlace one (λ l i j low high p. one-swap l i j low high p) ys h

-- ---- the list of all parts

loops-more : (l : ℕ) → loops_to (l + 1) ≡ loops_to l ++ Loop l ∷ []
loops-more l = let next : l + 1 ≡ suc l = omega arith in λ i. loops_to (next i)

rests-more : (f : Flow) (n : ℕ) (b : Bool) → f.is_cut n ≡ b → rests_to f (n + 1) ≡ rests_to f n ++ cond b (Rest (f.around n) n ∷ []) []
rests-more f n b is = let next : n + 1 ≡ suc n = omega arith in (λ i. rests_to f (next i)) ∙ (λ i. rests_to f n ++ cond (is i) (Rest (f.around n) n ∷ []) [])

-- a part is a loop or a rest that was listed before
abbrev IsListed : ℕ → ℕ → Part → Type 0
IsListed l n (Loop k) = k < l
IsListed l n (Rest r m) = m < n

push-cases : {A : Type 0} (xs : List A) (x y : A) (P : A → Type 0) → ((z : A) → Contains xs z → P z) → P x → Contains (xs ++ x ∷ []) y → P y
push-cases xs x y P all here c = elim (Contains-append_cases xs (x ∷ []) y c) [ inl d ↦ all y d | inr d ↦ only d ]
  where
    only : Contains (x ∷ []) y → P y
    only (zero, lt, at) = subst P at here
    only (suc k, lt, at) = absurd (omega (arith, lt))

loops-listed : (l n : ℕ) (p : Part) → Contains (loops_to l) p → IsListed l n p
loops-listed zero n p c = absurd (omega (arith, c.1))
loops-listed (suc l) n p c = push-cases (loops_to l) (Loop l) p (IsListed (suc l) n) (λ z d. wider z (loops-listed l n z d)) (omega arith) c
  where
    wider : (z : Part) → IsListed l n z → IsListed (suc l) n z
    wider (Loop k) h = omega (arith, h)
    wider (Rest r m) h = h

all-listed : (f : Flow) (l n : ℕ) (p : Part) → Contains (loops_to l ++ rests_to f n) p → IsListed l n p
all-listed f l zero p c = elim (Contains-append_cases (loops_to l) [] p c) [ inl d ↦ loops-listed l 0 p d | inr d ↦ absurd (omega (arith, d.1)) ]
all-listed f l (suc n) p c = go (f.is_cut n) refl (λ z d. all-listed f l n z d)
  where
    wider : (z : Part) → IsListed l n z → IsListed l (suc n) z
    wider (Loop k) h = h
    wider (Rest r m) h = omega (arith, h)

    go : (b : Bool) → f.is_cut n ≡ b → ((z : Part) → Contains (loops_to l ++ rests_to f n) z → IsListed l n z) → IsListed l (suc n) p
    go true is on = push-cases (loops_to l ++ rests_to f n) (Rest (f.around n) n) p (IsListed l (suc n)) (λ z d. wider z (on z d)) (omega arith)
        (subst (λ (xs : List Part). Contains xs p) ((λ i. loops_to l ++ (rests_to f n ++ cond (is i) (Rest (f.around n) n ∷ []) [])) ∙ sym (append_assoc (loops_to l) (rests_to f n) (Rest (f.around n) n ∷ []))) c)
    go false is on = wider p (on p (subst (λ (xs : List Part). Contains xs p) ((λ i. loops_to l ++ (rests_to f n ++ cond (is i) (Rest (f.around n) n ∷ []) [])) ∙ ap (λ xs. loops_to l ++ xs) (append-nil (rests_to f n))) c))

loops-one : (l : ℕ) → OnePlace (loops_to l)
loops-one zero = λ i j d low high e. absurd (omega (arith, low))
loops-one (suc l) = one-push (loops_to l) (Loop l) (loops-one l) (λ c. let low : l < l = loops-listed l 0 (Loop l) c in omega (arith, low))

all-one : (f : Flow) (l n : ℕ) → OnePlace (loops_to l ++ rests_to f n)
all-one f l zero = subst OnePlace (sym (append-nil (loops_to l))) (loops-one l)
all-one f l (suc n) = go (f.is_cut n) refl (all-one f l n)
  where
    go : (b : Bool) → f.is_cut n ≡ b → OnePlace (loops_to l ++ rests_to f n) → OnePlace (loops_to l ++ rests_to f (suc n))
    go true is on = subst OnePlace (append_assoc (loops_to l) (rests_to f n) (Rest (f.around n) n ∷ []) ∙ (λ i. loops_to l ++ (rests_to f n ++ cond (sym is i) (Rest (f.around n) n ∷ []) [])))
        (one-push (loops_to l ++ rests_to f n) (Rest (f.around n) n) on (λ c. let low : n < n = all-listed f l n (Rest (f.around n) n) c in omega (arith, low)))
    go false is on = subst OnePlace (ap (λ xs. loops_to l ++ xs) (sym (append-nil (rests_to f n))) ∙ (λ i. loops_to l ++ (rests_to f n ++ cond (sym is i) (Rest (f.around n) n ∷ []) []))) on

loops-have : (l k : ℕ) → k < l → Contains (loops_to l) (Loop k)
loops-have zero k lt = absurd (omega arith)
loops-have (suc l) k lt = elim (cases_eq k l) [
  | inl e ↦ Contains-append_right (loops_to l) (Loop l ∷ []) (Loop k) (0, omega arith, ap Loop (sym e))
  | inr n ↦ Contains-append_left (loops_to l) (Loop l ∷ []) (Loop k) (loops-have l k (omega (arith, lt, n)))
]

rests-have : (f : Flow) (n m : ℕ) → m < n → f.is_cut m ≡ true → Contains (rests_to f n) (Rest (f.around m) m)
rests-have f zero m lt is = absurd (omega arith)
rests-have f (suc n) m lt is = elim (cases_eq m n) [
  | inl e ↦ Contains-append_right (rests_to f n) (cond (f.is_cut n) (Rest (f.around n) n ∷ []) []) (Rest (f.around m) m)
      (subst (λ (b : Bool). Contains (cond b (Rest (f.around n) n ∷ []) []) (Rest (f.around m) m)) (sym (ap f.is_cut (sym e) ∙ is)) (0, omega arith, λ i. Rest (f.around (sym e i)) (sym e i)))
  | inr d ↦ Contains-append_left (rests_to f n) (cond (f.is_cut n) (Rest (f.around n) n ∷ []) []) (Rest (f.around m) m) (rests-have f n m (omega (arith, lt, d)) is)
]

pub all-have : (f : Flow) (p : Part) → IsPart f p → Contains (loops_to f.loops ++ rests_to f f.nodes) p
all-have f (Loop l) there = Contains-append_left (loops_to f.loops) (rests_to f f.nodes) (Loop l) (loops-have f.loops l there)
all-have f (Rest r n) there =
    Contains-append_right (loops_to f.loops) (rests_to f f.nodes) (Rest r n) (subst (λ (q : Option ℕ). Contains (rests_to f f.nodes) (Rest q n)) there.2 (rests-have f f.nodes n there.0 there.1))

-- ---- what is sorted

-- heights that are the same lead to weights that rise
chain : (rs : List Ranked) → AreSorted rs → (j k : ℕ) (d : Ranked) → j + k < length rs → (get_or rs j d).height ≡ (get_or rs (j + k) d).height → (get_or rs j d).weight ≤ (get_or rs (j + k) d).weight
chain rs s j zero d lt same = let none : j + 0 ≡ j = omega arith in let e = ap (λ n. (get_or rs n d).weight) none in omega (arith, e)
chain rs s j (suc k) d lt same =
    let next : j + suc k ≡ j + k + 1 = omega arith in
    let at : (get_or rs (j + suc k) d).height ≡ (get_or rs (j + k + 1) d).height = ap (λ n. (get_or rs n d).height) next in
    let heavy : (get_or rs (j + suc k) d).weight ≡ (get_or rs (j + k + 1) d).weight = ap (λ n. (get_or rs n d).weight) next in
    let up = s.heights j (j + k) d (omega arith) (omega (arith, lt)) in
    let more = s.heights (j + k) (j + k + 1) d (omega arith) (omega (arith, lt)) in
    let before : (get_or rs j d).height ≡ (get_or rs (j + k) d).height = omega (arith, up, more, at, same) in
    let first = chain rs s j k d (omega (arith, lt)) before in
    let second = s.weights (j + k) d (omega (arith, lt)) (omega (arith, before, at, same)) in
    omega (arith, first, second, heavy)

pub listed_all : (g : GraphOf) (f : ForestOf) (none loops all : List Ranked) → none ≡ [] → map (λ (r : Ranked). r.part) loops ≡ map (λ (r : Ranked). r.part) none ++ loops_to (length f.heads) →
    map (λ (r : Ranked). r.part) all ≡ map (λ (r : Ranked). r.part) loops ++ rests_to (flow_of g f (alone g [])) (length g.addrs) → map (λ (r : Ranked). r.part) all ≡ loops_to (length f.heads) ++ rests_to (flow_of g f (alone g [])) (length g.addrs)
listed_all g f none loops all empty first second =
    second ∙ (λ i. first i ++ rests_to (flow_of g f (alone g [])) (length g.addrs)) ∙ (λ i. (map (λ (r : Ranked). r.part) (empty i) ++ loops_to (length f.heads)) ++ rests_to (flow_of g f (alone g [])) (length g.addrs))

-- one more of them
pub pushed : (rs new : List Ranked) (r : Ranked) (before xs ys : List Part) → new ≡ rs ++ r ∷ [] → map (λ (r : Ranked). r.part) rs ≡ before ++ xs → ys ≡ xs ++ r.part ∷ [] → map (λ (r : Ranked). r.part) new ≡ before ++ ys
pushed rs new r before xs ys is listed more =
    ap (map (λ (r : Ranked). r.part)) is ∙ map-append rs (r ∷ []) ∙ (λ i. listed i ++ r.part ∷ []) ∙ append_assoc before xs (r.part ∷ []) ∙ (λ i. before ++ sym more i)
  where
    map-append : (xs ys : List Ranked) → map (λ (r : Ranked). r.part) (xs ++ ys) ≡ map (λ (r : Ranked). r.part) xs ++ map (λ (r : Ranked). r.part) ys
    map-append [] ys = refl
    map-append (x ∷ xs) ys = ap (λ (zs : List Part). x.part ∷ zs) (map-append xs ys)

pub next_rest : (f : Flow) (n : ℕ) (p : Part) → f.is_cut n ≡ true → p ≡ Rest (f.around n) n → rests_to f (n + 1) ≡ rests_to f n ++ p ∷ []
next_rest f n p is e = rests-more f n true is ∙ (λ i. rests_to f n ++ sym e i ∷ [])

pub no_rest : (f : Flow) (n : ℕ) → f.is_cut n ≡ false → rests_to f (n + 1) ≡ rests_to f n
no_rest f n is = rests-more f n false is ∙ append-nil (rests_to f n)

pub next_loop : (l : ℕ) (p : Part) → p ≡ Loop l → loops_to (l + 1) ≡ loops_to l ++ p ∷ []
next_loop l p e = loops-more l ∙ (λ i. loops_to l ++ sym e i ∷ [])

module _ (g : GraphOf) (f : ForestOf) (flow : IsFlow g) (forest : IsForestOf g f) where
  abbrev fl : Flow
  fl = flow_of g f (alone g [])

  -- parts of one weight are one
  one-weight : (p q : Part) → IsPart (flow_of g f (alone g [])) p → IsPart (flow_of g f (alone g [])) q → weight (flow_of g f (alone g [])) (number_of f) p ≡ weight (flow_of g f (alone g [])) (number_of f) q → p ≡ q
  one-weight (Loop l) (Loop k) here there e =
      ap Loop (one-loop g f flow forest l k here there (forest.different (head_of f l) (head_of f k) (head-node g f flow forest l here) (head-node g f flow forest k there) (omega (arith, e))))
  one-weight (Loop l) (Rest r n) here there e = absurd (omega (arith, e))
  one-weight (Rest r n) (Loop l) here there e = absurd (omega (arith, e))
  one-weight (Rest r n) (Rest q m) here there e =
      let same : n ≡ m = forest.different n m here.0 there.0 (omega (arith, e)) in
      let region : r ≡ q = sym here.2 ∙ ap fl.around same ∙ there.2 in
      λ i. Rest (region i) (same i)

  pub are-parts : (before rs : List Ranked) (ps : List Part) → map (λ (r : Ranked). r.part) before ≡ loops_to (length f.heads) ++ rests_to (flow_of g f (alone g [])) (length g.addrs) → All (IsRanked (flow_of g f (alone g [])) f) before →
      IsPermutation before rs → AreSorted rs → ps ≡ map (λ (r : Ranked). r.part) rs → AreParts (flow_of g f (alone g ps)) (number_of f) ps
  are-parts before rs ps listed ranked moved sorted is = record {
    depth = depth_of f;
    outside = refl;
    deeper = λ l lt. deeper g f flow forest l lt;
    all = λ p. (
      (λ c. there p (sound p c)),
      (λ h. subst (λ (xs : List Part). Contains xs p) (sym is)
          (Contains-permutation (map (λ (r : Ranked). r.part) before) (map (λ (r : Ranked). r.part) rs) p (IsPermutation-map (λ (r : Ranked). r.part) before rs moved)
          (subst (λ (xs : List Part). Contains xs p) (sym listed) (all-have fl p (here_ p h))))),
    );
    ordered = λ j k p q lt a b. before-is j k p q lt a b;
  }
    where
      good : All (IsRanked (flow_of g f (alone g [])) f) rs
      good = All-permutation (IsRanked (flow_of g f (alone g [])) f) before rs moved ranked

      there : (p : Part) → IsPart (flow_of g f (alone g [])) p → IsPart (flow_of g f (alone g ps)) p
      there (Loop l) h = h
      there (Rest r n) h = h

      here_ : (p : Part) → IsPart (flow_of g f (alone g ps)) p → IsPart (flow_of g f (alone g [])) p
      here_ (Loop l) h = h
      here_ (Rest r n) h = h

      count : length ps ≡ length rs
      count = ap length is ∙ length-map (λ (r : Ranked). r.part) rs

      at : (k : ℕ) (d : Ranked) → k < length rs → get_or ps k d.part ≡ (get_or rs k d).part
      at k d lt = ap (λ (xs : List Part). get_or xs k d.part) is ∙ get_or-map (λ (r : Ranked). r.part) rs k d d.part lt

      dummy : Part → Ranked
      dummy p = record { height = 0; weight = 0; part = p }

      part-is : (k : ℕ) (p : Part) → slice_get ps k ≡ Some p → (k < length rs) × ((get_or rs k (dummy p)).part ≡ p)
      part-is k p e = let lt = slice-below ps k p e in (omega (arith, lt, count), sym (at k (dummy p) (omega (arith, lt, count))) ∙ get_or_from_slice_get ps k p p e)

      sound : (p : Part) → Contains ps p → IsPart (flow_of g f (alone g [])) p
      sound p (k, lt, e) =
          let low : k < length rs = omega (arith, lt, count) in
          subst (IsPart (flow_of g f (alone g []))) (sym (at k (dummy p) low) ∙ e) (good k (dummy p) low).part

      different : OnePlace ps
      different = subst OnePlace (sym is) (one-permuted (map (λ (r : Ranked). r.part) before) (map (λ (r : Ranked). r.part) rs) (IsPermutation-map (λ (r : Ranked). r.part) before rs moved)
          (subst OnePlace (sym listed) (all-one fl (length f.heads) (length g.addrs))))

      before-is : (j k : ℕ) (p q : Part) → j < k → slice_get ps j ≡ Some p → slice_get ps k ≡ Some q → StandsBefore (flow_of g f (alone g ps)) (number_of f) (depth_of f) p q
      before-is j k p q lt a b =
          let low = slice-below ps j p a in
          let high = slice-below ps k q b in
          let d : Ranked = dummy p in
          let x : Ranked = get_or rs j d in
          let y : Ranked = get_or rs k d in
          let x_at : x.part ≡ p = sym (at j d (omega (arith, low, count))) ∙ get_or_from_slice_get ps j p p a in
          let y_at : y.part ≡ q = sym (at k d (omega (arith, high, count))) ∙ get_or_from_slice_get ps k q p b in
          let x_is = good j d (omega (arith, low, count)) in
          let y_is = good k d (omega (arith, high, count)) in
          let up = sorted.heights j k d (omega (arith, lt)) (omega (arith, high, count)) in
          let x_depth : x.height + depth_of f (own p) ≡ length f.heads = ap (λ (z : Part). x.height + depth_of f (own z)) (sym x_at) ∙ x_is.height in
          let y_depth : y.height + depth_of f (own q) ≡ length f.heads = ap (λ (z : Part). y.height + depth_of f (own z)) (sym y_at) ∙ y_is.height in
          let x_weight : x.weight ≡ weight (flow_of g f (alone g [])) (number_of f) p = x_is.weight_is ∙ ap (weight (flow_of g f (alone g [])) (number_of f)) x_at in
          let y_weight : y.weight ≡ weight (flow_of g f (alone g [])) (number_of f) q = y_is.weight_is ∙ ap (weight (flow_of g f (alone g [])) (number_of f)) y_at in
          elim (cases_eq x.height y.height) [
            | inr other ↦ inl (omega (arith, up, other, x_depth, y_depth))
            | inl same ↦
                let sum : j + (k - j) ≡ k = omega (arith, lt) in
                let heavy = chain rs sorted j (k - j) d (omega (arith, sum, high, count)) (same ∙ ap (λ n. (get_or rs n d).height) (sym sum)) in
                let le : x.weight ≤ y.weight = (let e = ap (λ n. (get_or rs n d).weight) sum in omega (arith, heavy, e)) in
                let apart : x.weight ≢ y.weight = λ (e : x.weight ≡ y.weight). clash j k p q lt low high a b
                (one-weight p q (subst (IsPart (flow_of g f (alone g []))) x_at x_is.part) (subst (IsPart (flow_of g f (alone g []))) y_at y_is.part) (sym x_weight ∙ e ∙ y_weight)) in
                inr (omega (arith, same, x_depth, y_depth), lighter p q (omega (arith, le, apart, x_weight, y_weight)))
          ]
        where
          clash : (j k : ℕ) (p q : Part) → j < k → j < length ps → k < length ps → slice_get ps j ≡ Some p → slice_get ps k ≡ Some q → p ≡ q → ⊥
          clash j k p q lt low high a b e =
              let same = different j k p low high (get_or_from_slice_get ps j p p a ∙ e ∙ sym (get_or_from_slice_get ps k q p b)) in
              omega (arith, lt, same)

          lighter : (p q : Part) → weight (flow_of g f (alone g [])) (number_of f) p < weight (flow_of g f (alone g [])) (number_of f) q → weight (flow_of g f (alone g ps)) (number_of f) p < weight (flow_of g f (alone g ps)) (number_of f) q
          lighter (Loop l) (Loop m) h = h
          lighter (Loop l) (Rest r n) h = h
          lighter (Rest r n) (Loop m) h = h
          lighter (Rest r n) (Rest s m) h = h
