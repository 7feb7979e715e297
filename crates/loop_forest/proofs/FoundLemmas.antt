-- The loops of the heads one after the other.
use Rattle.std.proofs.Common.{◌≡◌, ◌≢◌, ℕ, ◌+◌, ◌<◌, ◌≤◌, List, [], ◌∷◌, ◌++◌, length, get_or, inl, inr, refl, sym, ◌∙◌, ap, subst, arith, length-append, nat_eq}
use Rattle.std.specs.List.{Contains, IsDistinct}
use Rattle.std.proofs.lemmas.List.{get_or-map, length-map, get_or_append_left, map-append}
use Rattle.std.proofs.Math.Seq.{get_or-append_seam}
use Rattle.std.proofs.lemmas.List.Elements.{All-push, Contains-push, Contains-push_cases, Contains-append_left}
use Rattle.std.proofs.lemmas.Bool.{cases_eq}
use Rattle.std.proofs.lemmas.Bool.Decides.{eqb_tells}
use Rattle.std.proofs.lemmas.Map.Keys.{IsDistinct-from_apart}
use Rattle.std.proofs.lemmas.Map.Made.{length-le_from_is_member}
use Rattle.std.proofs.lemmas.Map.Views.{Contains-from_any, list_any-from_Contains, exact_unsigned_eq}
use Rattle.std.proofs.lemmas.Cmp.{nat_eq_equiv}
use Rattle.std.proofs.lemmas.Grind.{get_or_default_zero}
use Rattle.flow_graph.specs.Graph.{GraphOf, HasEdge, IsRising}
use Rattle.loop_forest.specs.Loops.{IsHead}
use Rattle.flow_graph.proofs.Ways.{place_of, node_at}
use Rattle.flow_graph.proofs.NumberLemmas.{different_from_rising}
use Rattle.loop_forest.specs.Regions.{ExitsOver, HasManyExits, loop_exit_limit}
use Rattle.loop_forest.specs.inner.LoopOf.{AreExits, IsLoopOf}
use Rattle.loop_forest.specs.inner.Found.{AreLoops, IsLooped, heads}
use Rattle.loop_forest.specs.declared.heads.LoopWithExits.{LoopWithExits}
use Rattle.loop_forest.proofs.LoopNodes.{exit_is, exit_of}

pub rising_push : (xs : List ℕ) (y : ℕ) → IsRising xs → ((x : ℕ) → Contains xs x → x < y) → IsRising (xs ++ y ∷ [])
rising_push xs y r b = record {
  below = λ j k l h.
      let long : length (xs ++ y ∷ []) ≡ length xs + 1 = length-append xs (y ∷ []) in
      let at_j : get_or (xs ++ y ∷ []) j 0 ≡ get_or xs j 0 = get_or_append_left xs (y ∷ []) 0 j (omega arith) in
      elim (cases_eq k (length xs)) [
        | inl q ↦
            let at_k : get_or (xs ++ y ∷ []) k 0 ≡ y = ap (λ z. get_or (xs ++ y ∷ []) z 0) q ∙ get_or-append_seam xs y [] 0 in
            let lt = b (get_or xs j 0) (node_at xs j (omega arith)) in
            omega (arith, at_j, at_k, lt)
        | inr n ↦
            let at_k : get_or (xs ++ y ∷ []) k 0 ≡ get_or xs k 0 = get_or_append_left xs (y ∷ []) 0 k (omega arith) in
            let lt = r.below j k l (omega arith) in
            omega (arith, at_j, at_k, lt)
      ];
}

pub loops_start : (g : GraphOf) → AreLoops g [] 0
loops_start g = record { each = λ i d l. absurd (omega arith); rising = record { below = λ j k l h. absurd (omega arith) }; below = λ h c. absurd (omega (arith, c.1)); all = λ h l k. absurd (omega arith) }

pub loops_skip : (g : GraphOf) (loops : List LoopWithExits) (h : ℕ) → AreLoops g loops h → (IsHead (HasEdge g) g.entry h → ⊥) → AreLoops g loops (h + 1)
loops_skip g loops h a n = record {
  each = a.each;
  rising = a.rising;
  below = λ k c. (let lt = a.below k c in omega arith);
  all = λ k l q. elim (cases_eq k h) [ inl e ↦ absurd (n (subst (λ (z : ℕ). IsHead (HasEdge g) g.entry z) e q)) | inr m ↦ a.all k (omega arith) q ];
}

pub loops_more : (g : GraphOf) (loops : List LoopWithExits) (h : ℕ) (l : LoopWithExits) → AreLoops g loops h → IsLooped g l → l.body.head ≡ h → AreLoops g (loops ++ l ∷ []) (h + 1)
loops_more g loops h l a is at =
    let hs : heads (loops ++ l ∷ []) ≡ heads loops ++ l.body.head ∷ [] = map-append (λ (x : LoopWithExits). x.body.head) loops (l ∷ []) in
    record {
      each = All-push (IsLooped g) loops l a.each is;
      rising = subst IsRising (sym hs) (rising_push (heads loops) l.body.head a.rising (λ x c. let lt = a.below x c in omega (arith, lt, at)));
      below = λ k c. elim (Contains-push_cases (heads loops) l.body.head k (subst (λ (xs : List ℕ). Contains xs k) hs c)) [
        | inl d ↦ (let lt = a.below k d in omega arith)
        | inr q ↦ omega (arith, q, at)
      ];
      all = λ k lt q. subst (λ (xs : List ℕ). Contains xs k) (sym hs) (elim (cases_eq k h) [
        | inl e ↦ subst (λ (z : ℕ). Contains (heads loops ++ l.body.head ∷ []) z) (at ∙ sym e) (Contains-push (heads loops) l.body.head)
        | inr m ↦ Contains-append_left (heads loops) (l.body.head ∷ []) k (a.all k (omega arith) q)
      ]);
    }

pub different_distinct : (xs : List ℕ) → ((j k : ℕ) → j < k → k < length xs → get_or xs j 0 ≢ get_or xs k 0) → IsDistinct nat_eq xs
different_distinct xs d = IsDistinct-from_apart nat_eq xs (λ i j e l h.
    elim (eqb_tells (get_or xs i e) (get_or xs j e)) [
      | inl p ↦ absurd (d i j l h (sym (get_or_default_zero xs i e (omega arith)) ∙ p.1 ∙ get_or_default_zero xs j e h))
      | inr p ↦ p.0
    ])

-- a loop that was kept has few exits
few_exits : (g : GraphOf) (l : LoopWithExits) → IsLooped g l → ExitsOver (HasEdge g) g.entry l.body.head loop_exit_limit → ⊥
few_exits g l is o =
    let le : length o.some ≤ length l.exits = length-le_from_is_member nat_eq_equiv o.some l.exits (different_distinct o.some o.different)
    (λ q h. list_any-from_Contains nat_eq_equiv q l.exits (is.exits.all q (exit_of g g.entry l.body.head l.body.nodes q is.body (o.exits q (Contains-from_any exact_unsigned_eq q o.some h))))) in
    let over : loop_exit_limit < length o.some = o.over in
    let few = is.few in
    omega arith

pub no_loop : LoopWithExits
no_loop = record { body = record { head = 0; nodes = [] }; exits = [] }

-- the first loop with more has too many
pub many_exits : (g : GraphOf) (loops : List LoopWithExits) (h : ℕ) (nodes exits : List ℕ) → AreLoops g loops h → IsLoopOf g g.entry h h nodes → AreExits g h nodes exits → loop_exit_limit < length exits → HasManyExits (HasEdge g) g.entry h
many_exits g loops h nodes exits a l e over = record {
  head = l.is_head;
  over = record { some = exits; over = over; exits = λ x c. exit_is g g.entry h nodes x l (e.exit x c); different = different_from_rising exits e.rising };
  least = λ k lt q o.
      let p = place_of (heads loops) k (a.all k lt q) in
      let i : p.0 < length loops = omega (arith, p.1, length-map loops (λ (x : LoopWithExits). x.body.head)) in
      let at : (get_or loops p.0 no_loop).body.head ≡ k = sym (get_or-map (λ (x : LoopWithExits). x.body.head) loops p.0 no_loop 0 i) ∙ p.2 in
      few_exits g (get_or loops p.0 no_loop) (a.each p.0 no_loop i) (subst (λ (z : ℕ). ExitsOver (HasEdge g) g.entry z loop_exit_limit) (sym at) o);
}

-- what was found of one loop
pub looped : (g : GraphOf) (h head : ℕ) (nodes exits : List ℕ) → IsLoopOf g g.entry h head nodes → AreExits g head nodes exits → length exits ≤ loop_exit_limit → IsLooped g (record { body = record { head = head; nodes = nodes }; exits = exits })
looped g h head nodes exits l e few = record {
  body = record {
    head_is = refl;
    is_head = subst (λ (z : ℕ). IsHead (HasEdge g) g.entry z) (sym l.head_is) l.is_head;
    inside = subst (λ (z : ℕ). (x : ℕ) → Rattle.loop_forest.specs.Loops.InLoop (HasEdge g) g.entry z x → Rattle.loop_forest.specs.inner.LoopOf.IsIn z nodes x) (sym l.head_is) l.inside;
    only = subst (λ (z : ℕ). (x : ℕ) → Rattle.loop_forest.specs.inner.LoopOf.IsIn z nodes x → Rattle.loop_forest.specs.Loops.InLoop (HasEdge g) g.entry z x) (sym l.head_is) l.only;
    within = l.within;
  };
  exits = e;
  few = few;
}

pub many_of : (g : GraphOf) (loops : List LoopWithExits) (h head : ℕ) (nodes exits : List ℕ) → AreLoops g loops h → IsLoopOf g g.entry h head nodes → AreExits g head nodes exits → loop_exit_limit < length exits → HasManyExits (HasEdge g) g.entry h
many_of g loops h head nodes exits a l e over =
    many_exits g loops h nodes exits a (record { head_is = refl; is_head = l.is_head; inside = l.inside; only = l.only; within = l.within })
    (subst (λ (z : ℕ). AreExits g z nodes exits) l.head_is e) over
