-- Nodes with a table of their places.
use Rattle.std.proofs.Common.{◌≡◌, ◌≢◌, ℕ, ◌+◌, ◌<◌, ◌≤◌, ◌↔◌, List, [], ◌∷◌, ◌++◌, length, get_or, set, Option, None, Some, Bool, IsTrue, IfSome, is_some, inl, inr, refl, sym, ◌∙◌, ap, subst, arith, length-append, true≢false}
use Rattle.std.specs.List.{All, Contains}
use Rattle.std.proofs.lemmas.List.{get_or-set_same, get_or-set_other, get_or_append_left}
use Rattle.std.proofs.Math.Seq.{get_or-append_seam}
use Rattle.std.proofs.lemmas.List.Elements.{Contains-push, Contains-push_cases, Contains-append_left}
use Rattle.std.proofs.lemmas.Bool.{cases_eq}
use Rattle.flow_graph.specs.Graph.{IsRising}
use Rattle.flow_graph.proofs.Ways.{place_of, node_at}
use Rattle.flow_graph.proofs.VisitedLemmas.{few_from_distinct}
use Rattle.loop_forest.specs.inner.Placed.{HasPlaces, place_in}
use Rattle.loop_forest.proofs.FoundLemmas.{different_distinct, rising_push}

pub placed_empty : HasPlaces [] []
placed_empty = record { found = λ x k e. absurd (cc); placed = λ k l. absurd (omega arith) }

pub placed_same : (nodes : List ℕ) (places more : List (Option ℕ)) → HasPlaces nodes places → ((y : ℕ) → place_in more y ≡ place_in places y) → HasPlaces nodes more
placed_same nodes places more h same = record {
  found = λ x k e. h.found x k (sym (same x) ∙ e);
  placed = λ k l. same (get_or nodes k 0) ∙ h.placed k l;
}

pub placed_push : (nodes : List ℕ) (places : List (Option ℕ)) (x : ℕ) → HasPlaces nodes places → (Contains nodes x → ⊥) → x < length places → HasPlaces (nodes ++ x ∷ []) (set places x (Some (length nodes)))
placed_push nodes places x h fresh long = record {
  found = λ y k e. elim (cases_eq y x) [
    | inl q ↦
        let at : Some (length nodes) ≡ Some k = sym (get_or-set_same places x (Some (length nodes)) None long) ∙ ap (λ z. get_or (set places x (Some (length nodes))) z None) (sym q) ∙ e in
        let same : length nodes ≡ k = cc in
        let here : get_or (nodes ++ x ∷ []) k 0 ≡ x = ap (λ z. get_or (nodes ++ x ∷ []) z 0) (sym same) ∙ get_or-append_seam nodes x [] 0 in
        (omega (arith, same, longer), here ∙ sym q)
    | inr n ↦
        let r = h.found y k (sym (get_or-set_other places x y (Some (length nodes)) None n) ∙ e) in
        let here : get_or (nodes ++ x ∷ []) k 0 ≡ get_or nodes k 0 = get_or_append_left nodes (x ∷ []) 0 k r.0 in
        (omega (arith, r.0, longer), here ∙ r.1)
  ];
  placed = λ k l. elim (cases_eq k (length nodes)) [
    | inl q ↦
        let here : get_or (nodes ++ x ∷ []) k 0 ≡ x = ap (λ z. get_or (nodes ++ x ∷ []) z 0) q ∙ get_or-append_seam nodes x [] 0 in
        ap (λ z. get_or (set places x (Some (length nodes))) z None) here ∙ get_or-set_same places x (Some (length nodes)) None long ∙ ap Some (sym q)
    | inr n ↦
        let below : k < length nodes = omega (arith, l, longer, n) in
        let here : get_or (nodes ++ x ∷ []) k 0 ≡ get_or nodes k 0 = get_or_append_left nodes (x ∷ []) 0 k below in
        let other : get_or nodes k 0 ≢ x = (λ q. fresh (subst (λ (z : ℕ). Contains nodes z) q (node_at nodes k below))) in
        ap (λ z. get_or (set places x (Some (length nodes))) z None) here ∙ get_or-set_other places x (get_or nodes k 0) (Some (length nodes)) None other ∙ h.placed k below
  ];
}
  where
    longer : length (nodes ++ x ∷ []) ≡ length nodes + 1
    longer = length-append nodes (x ∷ [])

pub place_found : (nodes : List ℕ) (places : List (Option ℕ)) (x : ℕ) (r : Option ℕ) → HasPlaces nodes places → r ≡ place_in places x → IfSome r (λ i. i < length nodes)
place_found nodes places x None h e = tt
place_found nodes places x (Some i) h e = (h.found x i (sym e)).0

pub place_at : (nodes : List ℕ) (places : List (Option ℕ)) (x : ℕ) (r : Option ℕ) → HasPlaces nodes places → r ≡ place_in places x → IfSome r (λ i. get_or nodes i 0 ≡ x)
place_at nodes places x None h e = tt
place_at nodes places x (Some i) h e = (h.found x i (sym e)).1

pub place_none : (nodes : List ℕ) (places : List (Option ℕ)) (x : ℕ) (r : Option ℕ) → HasPlaces nodes places → r ≡ place_in places x → r ≡ None → Contains nodes x → ⊥
place_none nodes places x r h e none c =
    let p = place_of nodes x c in
    let there : place_in places x ≡ Some p.0 = ap (place_in places) (sym p.2) ∙ h.placed p.0 p.1 in
    let clash : None ≡ Some p.0 = sym none ∙ e ∙ there in
    absurd (cc)

pub has_iff : (nodes : List ℕ) (x : ℕ) (r : Option ℕ) (b : Bool) → b ≡ is_some r → IfSome r (λ i. i < length nodes) → IfSome r (λ i. get_or nodes i 0 ≡ x) → (r ≡ None → Contains nodes x → ⊥) → IsTrue b ↔ Contains nodes x
has_iff nodes x None b e f a n = ((λ t. absurd (true≢false (sym t ∙ e))), (λ c. absurd (n refl c)))
has_iff nodes x (Some i) b e f a n = ((λ t. subst (λ (z : ℕ). Contains nodes z) a (node_at nodes i f)), (λ c. e))

pub places_differ : (nodes : List ℕ) (places : List (Option ℕ)) → HasPlaces nodes places → (j k : ℕ) → j < k → k < length nodes → get_or nodes j 0 ≢ get_or nodes k 0
places_differ nodes places h j k l below q =
    let same : Some j ≡ Some k = sym (h.placed j (omega arith)) ∙ ap (place_in places) q ∙ h.placed k below in
    let one : j ≡ k = cc in
    omega (arith, l, one)

pub places_few : (nodes : List ℕ) (places : List (Option ℕ)) → HasPlaces nodes places → (n : ℕ) → All (λ x. x < n) nodes → length nodes ≤ n
places_few nodes places h n below = few_from_distinct nodes (different_distinct nodes (places_differ nodes places h)) n below

-- ---- the nodes of a set in rising order

-- those below n
pub record RisesTo (nodes found : List ℕ) (n : ℕ) : Type 0 where
  pub members : (x : ℕ) → Contains found x ↔ (Contains nodes x × (x < n))
  pub rising : IsRising found

pub rises_start : (nodes : List ℕ) → RisesTo nodes [] 0
rises_start nodes = record {
  members = λ x. ((λ c. absurd (omega (arith, c.1))), (λ d. absurd (omega (arith, d.1))));
  rising = record { below = λ j k l h. absurd (omega arith) };
}

pub rises_more : (nodes found : List ℕ) (n : ℕ) → RisesTo nodes found n → Contains nodes n → RisesTo nodes (found ++ n ∷ []) (n + 1)
rises_more nodes found n r c = record {
  members = λ x. (
    (λ d. elim (Contains-push_cases found n x d) [
      | inl e ↦ (let p = (r.members x).0 e in (p.0, omega (arith, p.1)))
      | inr q ↦ (subst (λ (z : ℕ). Contains nodes z) q c, omega (arith, q))
    ]),
    (λ d. elim (cases_eq x n) [
      | inl q ↦ subst (λ (z : ℕ). Contains (found ++ n ∷ []) z) (sym q) (Contains-push found n)
      | inr m ↦ Contains-append_left found (n ∷ []) x ((r.members x).1 (d.0, omega (arith, d.1, m)))
    ]),
  );
  rising = rising_push found n r.rising (λ x d. ((r.members x).0 d).1);
}

pub rises_skip : (nodes found : List ℕ) (n : ℕ) → RisesTo nodes found n → (Contains nodes n → ⊥) → RisesTo nodes found (n + 1)
rises_skip nodes found n r out = record {
  members = λ x. (
    (λ d. let p = (r.members x).0 d in (p.0, omega (arith, p.1))),
    (λ d. elim (cases_eq x n) [
      | inl q ↦ absurd (out (subst (λ (z : ℕ). Contains nodes z) q d.0))
      | inr m ↦ (r.members x).1 (d.0, omega (arith, d.1, m))
    ]),
  );
  rising = r.rising;
}
