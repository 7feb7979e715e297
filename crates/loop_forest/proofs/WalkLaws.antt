-- The laws that walks rest on.
use Rattle.std.proofs.Common.{◌≡◌, ◌≢◌, ℕ, suc, ◌+◌, ◌<◌, ◌⊎◌, inl, inr, refl, sym, ◌∙◌, ap, subst, arith, Bool, true, false, cond, nat_eq, Option, None, Some, option_map, List, [], ◌∷◌, length, get_or}
use Rattle.std.specs.List.{Contains, list_any}
use Rattle.std.specs.Option.{option_or}
use Rattle.std.proofs.lemmas.Bool.Decides.{eqb_tells}
use Rattle.std.proofs.lemmas.Cmp.{nat_eq_equiv}
use Rattle.std.proofs.lemmas.Map.Views.{Contains-from_any, list_any-from_Contains, exact_unsigned_eq}
use Rattle.std.proofs.Common.{true≢false}
use Rattle.flow_graph.specs.Graph.{GraphOf, HasEdge, IsFlow, succs_of}
use Rattle.flow_graph.specs.Walks.{Reaches, Stop}
use Rattle.flow_graph.proofs.Ways.{Contains-cons, place_of as place_in, node_at}
use Rattle.flow_graph.proofs.NumberLemmas.{different_from_rising, number_at}
use Rattle.loop_forest.specs.Cycles.{IsCycle}
use Rattle.loop_forest.specs.Loops.{IsHead, InLoop, IsExit}
use Rattle.loop_forest.specs.Regions.{IsAround}
use Rattle.loop_forest.specs.Cuts.{StepsSinceCut, AtBase, After, IsBase, Entry, Head, Exit}
use Rattle.loop_forest.specs.Forest.{ForestOf, IsForestOf, exits_of, head_of, incoming, inside_of, number_of, place_of, region_of}
use Rattle.loop_forest.specs.Walking.{IsPlacedIn, IsWalkable, index_in, inner_of, loop_of}
use Rattle.loop_forest.specs.inner.Inner.{IsInner, IsPlaced}
use Rattle.loop_forest.proofs.BaseLemmas.{head_below, single}
use Rattle.loop_forest.proofs.CutLemmas.{stands_once}
use Rattle.loop_forest.proofs.LoopNesting.{loop_is_met}
use Rattle.loop_forest.proofs.OrderLaws.{after_loop, cycle_cut, stands_below, within_region}
use Rattle.loop_forest.proofs.RegionLaws.{around_one, exit_placed, inner_head, inner_one, placed, returned_outside, stays}
use Rattle.loop_forest.proofs.Regions.{down_to_no_head}

-- ---- places in a list

up_some : (r : Option ℕ) (k : ℕ) → option_map (λ j. j + 1) r ≡ Some k → (j : ℕ) × (r ≡ Some j) × (k ≡ j + 1)
up_some None k e = absurd (cc)
up_some (Some j) k e = (j, refl, (let q : j + 1 ≡ k = cc in sym q))

up_none : (r : Option ℕ) → option_map (λ j. j + 1) r ≡ None → r ≡ None
up_none None e = refl
up_none (Some j) e = absurd (cc)

no_clash : (k : ℕ) (r : Option ℕ) → r ≡ Some k → r ≡ None → ⊥
no_clash k None p q = absurd (cc)
no_clash k (Some j) p q = absurd (cc)

pub index_some : (xs : List ℕ) (n k : ℕ) → index_in xs n ≡ Some k → (k < length xs) × (get_or xs k 0 ≡ n)
index_some [] n k e = absurd (cc)
index_some (x ∷ xs) n k e = elim (eqb_tells x n) [
  | inl t ↦
      let at : Some 0 ≡ Some k = subst (λ (b : Bool). cond b (Some 0) (option_map (λ j. j + 1) (index_in xs n)) ≡ Some k) t.0 e in
      let q : 0 ≡ k = cc in
      subst (λ (z : ℕ). (z < suc (length xs)) × (get_or (x ∷ xs) z 0 ≡ n)) q (omega arith, t.1)
  | inr t ↦
      let at = up_some (index_in xs n) k (subst (λ (b : Bool). cond b (Some 0) (option_map (λ j. j + 1) (index_in xs n)) ≡ Some k) t.0 e) in
      let r = index_some xs n at.0 at.1 in
      let q : suc at.0 ≡ k = omega (arith, at.2) in
      subst (λ (z : ℕ). (z < suc (length xs)) × (get_or (x ∷ xs) z 0 ≡ n)) q (omega (arith, r.0), r.1)
]

pub index_none : (xs : List ℕ) (n : ℕ) → index_in xs n ≡ None → Contains xs n → ⊥
index_none [] n e c = absurd (omega (arith, c.1))
index_none (x ∷ xs) n e c = elim (eqb_tells x n) [
  | inl t ↦ no_clash 0 (index_in (x ∷ xs) n) (ap (λ (b : Bool). cond b (Some 0) (option_map (λ j. j + 1) (index_in xs n))) t.0) e
  | inr t ↦
      let at = up_none (index_in xs n) (subst (λ (b : Bool). cond b (Some 0) (option_map (λ j. j + 1) (index_in xs n)) ≡ None) t.0 e) in
      elim (Contains-cons x xs n c) [ inl q ↦ t.1 q | inr d ↦ index_none xs n at d ]
]

contains_or : (xs : List ℕ) (x : ℕ) → Contains xs x ⊎ (Contains xs x → ⊥)
contains_or xs x = by (list_any (nat_eq x) xs) refl
  where
    by : (t : Bool) → list_any (nat_eq x) xs ≡ t → Contains xs x ⊎ (Contains xs x → ⊥)
    by true p = inl (Contains-from_any exact_unsigned_eq x xs p)
    by false p = inr (λ c. true≢false (sym (list_any-from_Contains nat_eq_equiv x xs c) ∙ p))

-- ---- one forest

module _ (g : GraphOf) (f : ForestOf) (flow : IsFlow g) (is : IsForestOf g f) where
  E : ℕ → ℕ → Type 0
  E = HasEdge g

  reach : (a b : ℕ) → HasEdge g a b → Reaches (HasEdge g) g.entry a
  reach a b d = flow.reached a (flow.source a b d)

  head_is : (l : ℕ) → l < length f.heads → IsHead (HasEdge g) g.entry (head_of f l)
  head_is l i = (is.heads (head_of f l)).0 (node_at f.heads l i)

  loop_at : (h : ℕ) → IsHead (HasEdge g) g.entry h → (l : ℕ) × (l < length f.heads) × (head_of f l ≡ h)
  loop_at h k = place_in f.heads h ((is.heads h).1 k)

  decides : (h n : ℕ) → IsHead (HasEdge g) g.entry h → InLoop (HasEdge g) g.entry h n ⊎ (InLoop (HasEdge g) g.entry h n → ⊥)
  decides h n k =
      let p = loop_at h k in
      let iff = is.insides p.0 n p.1 in
      elim (contains_or (inside_of f p.0) n) [
        | inl c ↦ inl (subst (λ (z : ℕ). InLoop (HasEdge g) g.entry z n) p.2 (iff.0 c))
        | inr out ↦ inr (λ i. out (iff.1 (subst (λ (z : ℕ). InLoop (HasEdge g) g.entry z n) (sym p.2) i)))
      ]

  -- a region is a loop of the forest, or none
  Within : Option ℕ → Type 0
  Within r = (l : ℕ) → r ≡ Some l → l < length f.heads

  -- heads differ, so loops with one head are one
  same_loop : (j k : ℕ) → j < length f.heads → k < length f.heads → head_of f j ≡ head_of f k → j ≡ k
  same_loop j k l m q =
      let differ = different_from_rising f.heads is.rising in
      sym (number_at f.heads differ j (head_of f k) l q) ∙ number_at f.heads differ k (head_of f k) m refl

  same_region : (a b : Option ℕ) → ((l : ℕ) → a ≡ Some l → l < length f.heads) → ((l : ℕ) → b ≡ Some l → l < length f.heads) → option_map (head_of f) a ≡ option_map (head_of f) b → a ≡ b
  same_region None None p q e = refl
  same_region None (Some k) p q e = absurd (cc)
  same_region (Some j) None p q e = absurd (cc)
  same_region (Some j) (Some k) p q e = let h : head_of f j ≡ head_of f k = cc in ap Some (same_loop j k (p j refl) (q k refl) h)

  region_within : (n : ℕ) → n < length g.addrs → (l : ℕ) → region_of f n ≡ Some l → l < length f.heads
  region_within n i l e = is.within n l i e

  own_loop : (n l : ℕ) → loop_of f n ≡ Some l → (l < length f.heads) × (head_of f l ≡ n)
  own_loop n l e = index_some f.heads n l e

  -- ---- the smallest loop

  around_inner : (n : ℕ) (r : Option ℕ) → (IsHead (HasEdge g) g.entry n → ⊥) → IsAround (HasEdge g) g.entry n r → IsInner (HasEdge g) g.entry n r
  around_inner n None plain p = λ h k i. p h k (λ q. plain (subst (λ (z : ℕ). IsHead (HasEdge g) g.entry z) q k)) i
  around_inner n (Some l) plain p = (p.0, p.2, λ h k i. p.3 h k (λ q. plain (subst (λ (z : ℕ). IsHead (HasEdge g) g.entry z) q k)) i)

  inner_cases : (n : ℕ) → n < length g.addrs → (o : Option ℕ) → loop_of f n ≡ o
      → IsInner (HasEdge g) g.entry n (option_map (head_of f) (option_or o (region_of f n))) × ((l : ℕ) → option_or o (region_of f n) ≡ Some l → l < length f.heads)
  inner_cases n i None e = (
    around_inner n _ (λ k. index_none f.heads n e ((is.heads n).1 k)) (is.regions n i),
    region_within n i,
  )
  inner_cases n i (Some l) e =
      let o = own_loop n l e in (
        subst (λ (z : ℕ). IsInner (HasEdge g) g.entry z (Some (head_of f l))) o.1 (inner_head (HasEdge g) g.entry reach (head_of f l) (head_is l o.0)),
        λ k q. let same : l ≡ k = cc in omega (arith, o.0, same),
      )

  inner_is : (n : ℕ) → n < length g.addrs → IsInner (HasEdge g) g.entry n (option_map (head_of f) (inner_of f n))
  inner_is n i = (inner_cases n i (loop_of f n) refl).0

  inner_within : (n : ℕ) → n < length g.addrs → (l : ℕ) → inner_of f n ≡ Some l → l < length f.heads
  inner_within n i = (inner_cases n i (loop_of f n) refl).1

  -- ---- cuts

  Base : ℕ → Type 0
  Base = IsBase (HasEdge g) g.entry (incoming g)

  place_once : (n k : ℕ) → n < length g.addrs → StepsSinceCut (HasEdge g) (IsBase (HasEdge g) g.entry (incoming g)) n k → place_of f n ≡ k
  place_once n k i s = stands_once (single g) n (place_of f n) k (is.places n i) s

  base_zero : (n : ℕ) → n < length g.addrs → IsBase (HasEdge g) g.entry (incoming g) n → place_of f n ≡ 0
  base_zero n i b = place_once n 0 i (AtBase b)

  next_place : (n m : ℕ) → n < length g.addrs → HasEdge g n m → (j : ℕ) → StepsSinceCut (HasEdge g) (IsBase (HasEdge g) g.entry (incoming g)) m j → j ≢ 0 → j ≡ place_of f n + 1
  next_place n m i d _ (AtBase b) ne = absurd (ne refl)
  next_place n m i d j (After {u = u} {k = k} out e s q) ne =
      let same : u ≡ n = single g m u n out e d in
      let at : place_of f n ≡ k = place_once n k i (subst (λ (z : ℕ). StepsSinceCut (HasEdge g) (IsBase (HasEdge g) g.entry (incoming g)) z k) same s) in
      let below : k < 32 = stands_below s in
      omega (arith, q, at, below, ne)

  -- ---- where a walk comes to

  placed_in : (r : Option ℕ) → ((l : ℕ) → r ≡ Some l → l < length f.heads) → (n : ℕ) → n < length g.addrs → IsPlaced (HasEdge g) g.entry (option_map (head_of f) r) n → IsPlacedIn f r n
  placed_in None w n i p = same_region (region_of f n) None (region_within n i) (λ l e. absurd (cc)) (around_one (HasEdge g) g.entry reach n _ None (is.regions n i) p)
  placed_in (Some l) w n i p = elim p [
    | inl q ↦ inl q
    | inr r ↦ elim r [
      | inl x ↦ inr (inl ((is.exits l n (w l refl)).1 x))
      | inr a ↦ inr (inr (same_region (region_of f n) (Some l) (region_within n i) (λ k e. let same : l ≡ k = cc in let lt = w l refl in omega (arith, lt, same))
          (around_one (HasEdge g) g.entry reach n _ (Some (head_of f l)) (is.regions n i) a)))
    ]
  ]

  no_head : (m : ℕ) → m < length g.addrs → place_of f m ≢ 0 → IsHead (HasEdge g) g.entry m → ⊥
  no_head m i ne k = ne (base_zero m i (Head k))

  no_exit : (m : ℕ) → m < length g.addrs → place_of f m ≢ 0 → (h : ℕ) → IsHead (HasEdge g) g.entry h → IsExit (HasEdge g) g.entry h m → ⊥
  no_exit m i ne h k x = ne (base_zero m i (Exit k x))

  exit_is : (l m : ℕ) → l < length f.heads → Contains (exits_of f l) m → IsExit (HasEdge g) g.entry (head_of f l) m
  exit_is l m i c = (is.exits l m i).0 c

  exit_below : (l m : ℕ) → l < length f.heads → Contains (exits_of f l) m → m < length g.addrs
  exit_below l m i c = let x = exit_is l m i c in flow.within x.from m x.edge

  head_node : (l : ℕ) → l < length f.heads → head_of f l < length g.addrs
  head_node l i = head_below g (head_of f l) flow (head_is l i)

  none_left : (n : ℕ) → succs_of g.edges n ≡ [] → (m : ℕ) → HasEdge g n m → ⊥
  none_left n e m d = let c = subst (λ (xs : List ℕ). Contains xs m) e d in omega (arith, c.1)

  entry_region : region_of f g.entry ≡ None
  entry_region = same_region (region_of f g.entry) None (region_within g.entry flow.entry) (λ l e. absurd (cc))
      (around_one (HasEdge g) g.entry reach g.entry _ None (is.regions g.entry flow.entry) (λ h k ne i. ne (sym ((loop_is_met g.entry h g.entry i).met Stop))))

  pub walkable : IsWalkable g f
  walkable = record {
    near = λ n i. stands_below (is.places n i);
    stays = λ n m d ne.
        let i = flow.source n m d in
        let j = flow.within n m d in
        same_region (inner_of f m) (inner_of f n) (inner_within m j) (inner_within n i)
        (stays (HasEdge g) g.entry reach decides n m _ _ d (no_head m j ne) (no_exit m j ne) (inner_is m j) (inner_is n i));
    next = λ n m d ne. next_place n m (flow.source n m d) d (place_of f m) (is.places m (flow.within n m d)) ne;
    falls = λ n m d ne. down_to_no_head (HasEdge g) g.entry (number_of f) is.in_post_order n m (reach n m d) d (no_head m (flow.within n m d) ne);
    placed = λ n m d. placed_in (inner_of f n) (inner_within n (flow.source n m d)) m (flow.within n m d) (placed (HasEdge g) g.entry reach decides n m _ d (inner_is n (flow.source n m d)));
    falls_on = λ n m d q. within_region (HasEdge g) g.entry reach (number_of f) is.in_post_order n m (option_map (head_of f) (inner_of f n)) d (inner_is n (flow.source n m d))
        (subst (λ (r : Option ℕ). IsAround (HasEdge g) g.entry m (option_map (head_of f) r)) q (is.regions m (flow.within n m d)));
    falls_behind = λ l m i c q. after_loop (HasEdge g) g.entry reach (number_of f) is.in_post_order (head_of f l) m (option_map (head_of f) (region_of f (head_of f l))) (head_is l i) (exit_is l m i c)
        (is.regions (head_of f l) (head_node l i))
        (subst (λ (r : Option ℕ). IsAround (HasEdge g) g.entry m (option_map (head_of f) r)) q (is.regions m (exit_below l m i c)));
    returned = λ n i e. same_region (inner_of f n) None (inner_within n i) (λ l q. absurd (cc))
        (inner_one (HasEdge g) g.entry reach n n _ None (inner_is n i) (returned_outside (HasEdge g) g.entry reach n (none_left n e)) (λ h k c. c) (λ h k c. c));
    entry = (base_zero g.entry flow.entry Entry, entry_region);
    own = own_loop;
    head = λ l i. (
      head_node l i,
      base_zero (head_of f l) (head_node l i) (Head (head_is l i)),
      same_region (inner_of f (head_of f l)) (Some l) (inner_within (head_of f l) (head_node l i)) (λ k e. let same : l ≡ k = cc in omega (arith, i, same))
          (inner_one (HasEdge g) g.entry reach (head_of f l) (head_of f l) _ (Some (head_of f l)) (inner_is (head_of f l) (head_node l i)) (inner_head (HasEdge g) g.entry reach (head_of f l) (head_is l i)) (λ h k c. c) (λ h k c. c)),
    );
    exit = λ l m i c. (
      exit_below l m i c,
      base_zero m (exit_below l m i c) (Exit (head_is l i) (exit_is l m i c)),
      placed_in (region_of f (head_of f l)) (region_within (head_of f l) (head_node l i)) m (exit_below l m i c)
          (exit_placed (HasEdge g) g.entry reach decides (head_of f l) m _ (head_is l i) (exit_is l m i c) (is.regions (head_of f l) (head_node l i))),
    );
    cycles = λ c i.
        let first : ℕ = get_or c 0 0 in
        let below : first < length g.addrs = flow.within _ first i.closed in
        let h = cycle_cut g.entry (incoming g) (number_of f) is.in_post_order c i first (node_at c 0 i.some) (flow.reached first below) in
        let node = cycle_below c i h.0 h.1 in
        (h.0, h.1, place_once h.0 0 node h.2);
  }
    where
      cycle_below : (c : List ℕ) → IsCycle (HasEdge g) c → (h : ℕ) → Contains c h → h < length g.addrs
      cycle_below c i h d = Rattle.loop_forest.proofs.AddressLemmas.cycle_nodes g c flow i h d
