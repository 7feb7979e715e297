-- Numbers of functions, summed over all of them: the order in which they stand changes nothing.
use Rattle.std.proofs.Common.{◌≡◌, ℕ, zero, suc, ◌+◌, ◌<◌, ◌≤◌, Bool, List, [], ◌∷◌, map, length, get_or, Some, refl, sym, ap, subst, ◌∙◌, arith}
use Rattle.std.specs.Prelude.{slice_get}
use Rattle.std.specs.List.{AllZip, Contains, sum_by}
use Rattle.std.proofs.lemmas.List.Sums.{sum_by-cons}
use Rattle.std.proofs.lemmas.Option.{get_or_from_slice_get, slice_get_within}
use Rattle.rv_words.specs.Bytes.{Bytes}
use Rattle.flow_graph.specs.Graph.{GraphOf, IsGraphOf}
use Rattle.flow_graph.proofs.GraphLaws.{one_graph}
use Rattle.flow_graph.specs.Reach.{IsReach}
use Rattle.code_parts.specs.Members.{Member}
use Rattle.code_parts.proofs.Lists.{slice-mapped}

-- ---- numbers with keys, each key once

abbrev Row : Type 0
Row = ℕ × ℕ

abbrev pub total : List Row → ℕ
total [] = 0
total (r ∷ rs) = r.1 + total rs

abbrev without : ℕ → List Row → List Row
without k [] = []
without zero (r ∷ rs) = rs
without (suc k) (r ∷ rs) = r ∷ without k rs

total-without : (rs : List Row) (k : ℕ) (r : Row) → slice_get rs k ≡ Some r → total rs ≡ r.1 + total (without k rs)
total-without [] k r at = absurd (cc)
total-without (q ∷ rs) zero r at = let same : q ≡ r = cc in ap (λ (x : Row). x.1 + total rs) same
total-without (q ∷ rs) (suc k) r at = let rest = total-without rs k r at in omega (arith, rest)

kept-without : (rs : List Row) (j k : ℕ) (r : Row) → slice_get rs j ≡ Some r → (j ≡ k → ⊥) → (i : ℕ) × (slice_get (without k rs) i ≡ Some r)
kept-without [] j k r at other = absurd (cc)
kept-without (q ∷ rs) zero zero r at other = absurd (other refl)
kept-without (q ∷ rs) zero (suc k) r at other = (zero, at)
kept-without (q ∷ rs) (suc j) zero r at other = (j, at)
kept-without (q ∷ rs) (suc j) (suc k) r at other = let m = kept-without rs j k r at (λ e. other (ap suc e)) in (suc m.0, m.1)

abbrev HasKeysOnce : List Row → Type 0
HasKeysOnce rs = (j k : ℕ) (x y : Row) → slice_get rs j ≡ Some x → slice_get rs k ≡ Some y → x.0 ≡ y.0 → j ≡ k

abbrev AreIn : List Row → List Row → Type 0
AreIn xs ys = (j : ℕ) (x : Row) → slice_get xs j ≡ Some x → (i : ℕ) × (slice_get ys i ≡ Some x)

total-le : (xs ys : List Row) → HasKeysOnce xs → AreIn xs ys → total xs ≤ total ys
total-le [] ys once are = omega arith
total-le (x ∷ xs) ys once are =
    let c = are zero x refl in
    let whole = total-without ys c.0 x c.1 in
    let rest = total-le xs (without c.0 ys) (λ j k y z a b e. let s : suc j ≡ suc k = once (suc j) (suc k) y z a b e in omega (arith, s))
    (λ j y at. let m = are (suc j) y at in kept-without ys m.0 c.0 y m.1 (λ e. other j y at c m e)) in
    omega (arith, whole, rest)
  where
    other : (j : ℕ) (y : Row) → slice_get xs j ≡ Some y → (c : (i : ℕ) × (slice_get ys i ≡ Some x)) → (m : (i : ℕ) × (slice_get ys i ≡ Some y)) → m.0 ≡ c.0 → ⊥
    other j y at c m e =
        let some : Some x ≡ Some y = sym c.1 ∙ ap (λ i. slice_get ys i) (sym e) ∙ m.1 in
        let is : x ≡ y = cc in
        let never : zero ≡ suc j = once zero (suc j) x y refl at (ap (λ (r : Row). r.0) is) in
        omega (arith, never)

-- ---- functions of one entry

abbrev pub entries_of : List Member → List ℕ
entries_of fs = map (λ m. m.at) fs

abbrev pub size_of : Member → ℕ
size_of m = length m.graph.addrs

-- the functions of e, each with its graph
pub record AreGiven (linked : Bool) (Calls : ℕ → ℕ → Type 0) (code : Bytes) (e : ℕ) (fs : List Member) : Type 0 where
  pub functions : IsReach Calls e (entries_of fs)
  pub graphs : (m : Member) → Contains fs m → IsGraphOf linked code m.at m.graph

-- the function with that entry
entered : (fs : List Member) (a : ℕ) → Contains (entries_of fs) a → (k : ℕ) × (m : Member) × (slice_get fs k ≡ Some m) × (m.at ≡ a)
entered [] a (k, lt, at) = absurd (omega (arith, lt))
entered (f ∷ fs) a (zero, lt, at) = (zero, f, refl, at)
entered (f ∷ fs) a (suc k, lt, at) = let r = entered fs a (k, omega (arith, lt), at) in (suc r.0, r.1, r.2, r.3)

there-in : (fs : List Member) (k : ℕ) (m : Member) → slice_get fs k ≡ Some m → Contains fs m
there-in fs k m at = (k, slice_get_within fs k m at, get_or_from_slice_get fs k m m at)

module _ (linked : Bool) (Calls : ℕ → ℕ → Type 0) (code : Bytes) (e : ℕ) (W : GraphOf → ℕ → Type 0) (one : (g : GraphOf) (n m : ℕ) → W g n → W g m → n ≡ m) where
  -- the number of each function stands behind its entry
  abbrev pub AreWeighed : List Member → List Row → Type 0
  AreWeighed fs rows = AllZip (λ (f : Member) (r : Row). (r.0 ≡ f.at) × W f.graph r.1) fs rows

  row-of : (fs : List Member) (rows : List Row) → AreWeighed fs rows → (k : ℕ) (f : Member) → slice_get fs k ≡ Some f → (r : Row) × (slice_get rows k ≡ Some r) × (r.0 ≡ f.at) × W f.graph r.1
  row-of [] [] h k f at = absurd (cc)
  row-of [] (r ∷ rows) h k f at = absurd h
  row-of (g ∷ fs) [] h k f at = absurd h
  row-of (g ∷ fs) (r ∷ rows) h zero f at =
      let same : g ≡ f = cc in
      let own = subst (λ (z : Member). (r.0 ≡ z.at) × W z.graph r.1) same h.0 in
      (r, refl, own.0, own.1)
  row-of (g ∷ fs) (r ∷ rows) h (suc k) f at = row-of fs rows h.1 k f at

  function-of : (fs : List Member) (rows : List Row) → AreWeighed fs rows → (k : ℕ) (r : Row) → slice_get rows k ≡ Some r → (f : Member) × (slice_get fs k ≡ Some f) × (r.0 ≡ f.at) × W f.graph r.1
  function-of [] [] h k r at = absurd (cc)
  function-of [] (q ∷ rows) h k r at = absurd h
  function-of (f ∷ fs) [] h k r at = absurd h
  function-of (f ∷ fs) (q ∷ rows) h zero r at =
      let same : q ≡ r = cc in
      let own = subst (λ (z : Row). (z.0 ≡ f.at) × W f.graph z.1) same h.0 in
      (f, refl, own.0, own.1)
  function-of (f ∷ fs) (q ∷ rows) h (suc k) r at = function-of fs rows h.1 k r at

  keys-once : (fs : List Member) (rows : List Row) → AreGiven linked Calls code e fs → AreWeighed fs rows → HasKeysOnce rows
  keys-once fs rows are h j k x y at there same =
      let f = function-of fs rows h j x at in
      let g = function-of fs rows h k y there in
      let first = slice-mapped (λ (z : Member). z.at) fs j f.0 f.1 in
      let second = slice-mapped (λ (z : Member). z.at) fs k g.0 g.1 in
      let low = slice_get_within (entries_of fs) j f.0.at first in
      let high = slice_get_within (entries_of fs) k g.0.at second in
      let equal : get_or (entries_of fs) j 0 ≡ get_or (entries_of fs) k 0 =
      get_or_from_slice_get (entries_of fs) j f.0.at 0 first ∙ sym f.2 ∙ same ∙ g.2 ∙ sym (get_or_from_slice_get (entries_of fs) k g.0.at 0 second) in
      let down : j < k → ⊥ = λ lt. are.functions.different j k lt high equal in
      let up : k < j → ⊥ = λ lt. are.functions.different k j lt low (sym equal) in
      omega (arith, down, up)

  in-other : (fs gs : List Member) (rows sows : List Row) → AreGiven linked Calls code e fs → AreGiven linked Calls code e gs → AreWeighed fs rows → AreWeighed gs sows → AreIn rows sows
  in-other fs gs rows sows are too h k j x at =
      let f = function-of fs rows h j x at in
      let first = slice-mapped (λ (z : Member). z.at) fs j f.0 f.1 in
      let within = slice_get_within (entries_of fs) j f.0.at first in
      let is = are.functions.reached f.0.at (j, within, get_or_from_slice_get (entries_of fs) j f.0.at f.0.at first) in
      let n = entered gs f.0.at (too.functions.all f.0.at is) in
      let own = are.graphs f.0 (there-in fs j f.0 f.1) in
      let other = too.graphs n.1 (there-in gs n.0 n.1 n.2) in
      let graph : n.1.graph ≡ f.0.graph = one_graph linked code f.0.at n.1.graph f.0.graph (subst (λ a. IsGraphOf linked code a n.1.graph) n.3 other) own in
      let s = row-of gs sows k n.0 n.1 n.2 in
      let key : s.0.0 ≡ x.0 = s.2 ∙ n.3 ∙ sym f.2 in
      let weight : s.0.1 ≡ x.1 = one f.0.graph s.0.1 x.1 (subst (λ (g : GraphOf). W g s.0.1) graph s.3) f.3 in
      let row : s.0 ≡ x = λ i. (key i, weight i) in
      (n.0, s.1 ∙ ap (λ (r : Row). Some r) row)

  pub one-total : (fs gs : List Member) (rows sows : List Row) → AreGiven linked Calls code e fs → AreGiven linked Calls code e gs → AreWeighed fs rows → AreWeighed gs sows → total rows ≡ total sows
  one-total fs gs rows sows are too h k =
      let there = total-le rows sows (keys-once fs rows are h) (in-other fs gs rows sows are too h k) in
      let back = total-le sows rows (keys-once gs sows too k) (in-other gs fs sows rows too are k h) in
      omega (arith, there, back)

-- ---- their sizes

abbrev sizes : List Member → List Row
sizes [] = []
sizes (f ∷ fs) = (f.at, size_of f) ∷ sizes fs

abbrev IsSize : GraphOf → ℕ → Type 0
IsSize g n = n ≡ length g.addrs

one-size : (g : GraphOf) (n m : ℕ) → IsSize g n → IsSize g m → n ≡ m
one-size g n m a b = a ∙ sym b

sized : (linked : Bool) (Calls : ℕ → ℕ → Type 0) (code : Bytes) (e : ℕ) (fs : List Member) → AreWeighed linked Calls code e IsSize one-size fs (sizes fs)
sized linked Calls code e [] = tt
sized linked Calls code e (f ∷ fs) = ((refl, refl), sized linked Calls code e fs)

sum-of-sizes : (fs : List Member) → sum_by size_of fs ≡ total (sizes fs)
sum-of-sizes [] = refl
sum-of-sizes (f ∷ fs) = sum_by-cons size_of f fs ∙ ap (λ n. size_of f + n) (sum-of-sizes fs)

pub sizes-once : (linked : Bool) (Calls : ℕ → ℕ → Type 0) (code : Bytes) (e : ℕ) (fs gs : List Member) → AreGiven linked Calls code e fs → AreGiven linked Calls code e gs → sum_by size_of fs ≡ sum_by size_of gs
sizes-once linked Calls code e fs gs are too =
    sum-of-sizes fs ∙ one-total linked Calls code e IsSize one-size fs gs (sizes fs) (sizes gs) are too (sized linked Calls code e fs) (sized linked Calls code e gs) ∙ sym (sum-of-sizes gs)
