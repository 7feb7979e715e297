-- A search from an entry.
use Rattle.std.proofs.Common.{◌≡◌, ℕ, suc, ◌+◌, ◌<◌, ◌≤◌, ◌≢◌, List, [], ◌∷◌, ◌++◌, length, get_or, inl, inr, refl, sym, ◌∙◌, arith, subst, length-append, Bool, true, false, IsTrue, if◌then◌else◌, ◌↔◌, true≢false, nat_eq}
use Rattle.std.specs.List.{Contains}
use Rattle.std.proofs.lemmas.Bool.{cases_eq}
use Rattle.std.proofs.lemmas.List.{get_or_append_left}
use Rattle.std.proofs.lemmas.List.Elements.{Contains-push, Contains-push_cases}
use Rattle.flow_graph.specs.Walks.{Way, Stop, Leave, AnyNode, Reaches}
use Rattle.flow_graph.specs.Reach.{IsReach, ReachesOver}
use Rattle.flow_graph.specs.inner.Reached.{GrowsBy}
use Rattle.flow_graph.proofs.Ways.{place_of, node_at, way-join, Contains-cons}
use Rattle.flow_graph.proofs.VisitedLemmas.{not_fresh}
use Rattle.std.specs.List.{IsDistinct}
use Rattle.std.proofs.lemmas.Map.Keys.{IsDistinct-from_apart}
use Rattle.std.proofs.lemmas.Map.Made.{length-le_from_is_member}
use Rattle.std.proofs.lemmas.Map.Views.{Contains-from_any, list_any-from_Contains, exact_unsigned_eq}
use Rattle.std.proofs.lemmas.Cmp.{nat_eq_equiv}
use Rattle.std.proofs.lemmas.Bool.Decides.{eqb_tells}
use Rattle.std.proofs.lemmas.Grind.{get_or_default_zero}

pub grows_none : (N : List ℕ) → GrowsBy N [] N
grows_none N = record { kept = λ k l. (l, refl); added = λ t c. absurd (omega (arith, c.1)); only = λ x c. inl c }

pub grows_one : (N N' : List ℕ) (a : ℕ) (b : Bool) → IsTrue b ↔ (Contains N a → ⊥) → N' ≡ (if b then N ++ a ∷ [] else N) → GrowsBy N (a ∷ []) N'
grows_one N N' a true fresh e = subst (λ (z : List ℕ). GrowsBy N (a ∷ []) z) (sym e) (record {
  kept = λ k l. (omega (arith, length-append N (a ∷ [])), get_or_append_left N (a ∷ []) 0 k l);
  added = λ t c. elim (Contains-cons a [] t c) [ inl q ↦ subst (λ (z : ℕ). Contains (N ++ a ∷ []) z) q (Contains-push N a) | inr d ↦ absurd (omega (arith, d.1)) ];
  only = λ x c. elim (Contains-push_cases N a x c) [ inl d ↦ inl d | inr q ↦ inr (0, omega arith, q) ];
})
grows_one N N' a false fresh e = subst (λ (z : List ℕ). GrowsBy N (a ∷ []) z) (sym e) (record {
  kept = λ k l. (l, refl);
  added = λ t c. elim (Contains-cons a [] t c) [ inl q ↦ subst (λ (z : ℕ). Contains N z) q (not_fresh N a (λ n. true≢false (sym (fresh.1 n)))) | inr d ↦ absurd (omega (arith, d.1)) ];
  only = λ x c. inl c;
})

pub kept_by : (N ts N' : List ℕ) → GrowsBy N ts N' → (x : ℕ) → Contains N x → Contains N' x
kept_by N ts N' g x c = let p = place_of N x c in let k = g.kept p.0 p.1 in subst (λ (z : ℕ). Contains N' z) (k.1 ∙ p.2) (node_at N' p.0 k.0)

pub grows_two : (N M N' : List ℕ) (a b : ℕ) → GrowsBy N (a ∷ []) M → GrowsBy M (b ∷ []) N' → GrowsBy N (a ∷ b ∷ []) N'
grows_two N M N' a b g h = record {
  kept = λ k l. let p = g.kept k l in let q = h.kept k p.0 in (q.0, q.1 ∙ p.1);
  added = λ t c. elim (Contains-cons a (b ∷ []) t c) [ inl q ↦ kept_by M (b ∷ []) N' h t (g.added t (0, omega arith, q)) | inr d ↦ h.added t d ];
  only = λ x c. elim (h.only x c) [
    | inr d ↦ inr (suc d.0, omega (arith, d.1), d.2)
    | inl m ↦ elim (g.only x m) [ inl n ↦ inl n | inr d ↦ elim (Contains-cons a [] x d) [ inl q ↦ inr (0, omega arith, q) | inr d2 ↦ absurd (omega (arith, d2.1)) ] ]
  ];
}

-- the nodes before place i are done
pub record Reaching (E : ℕ → ℕ → Type 0) (e : ℕ) (N : List ℕ) (i : ℕ) : Type 0 where
  pub reached : (x : ℕ) → Contains N x → Reaches E e x
  pub entry : Contains N e
  pub done : (k v : ℕ) → k < i → E (get_or N k 0) v → Contains N v
  pub upto : i ≤ length N

way_step : {E : ℕ → ℕ → Type 0} {a b c : ℕ} → Reaches E a b → E b c → Reaches E a c
way_step w d = way-join w (Leave tt d Stop)

pub reaching_start : (E : ℕ → ℕ → Type 0) (e : ℕ) (N : List ℕ) → GrowsBy [] (e ∷ []) N → Reaching E e N 0
reaching_start E e N g = record {
  reached = λ x c. elim (g.only x c) [ inl d ↦ absurd (omega (arith, d.1)) | inr d ↦ elim (Contains-cons e [] x d) [ inl q ↦ subst (λ (z : ℕ). Reaches E e z) q Stop | inr f ↦ absurd (omega (arith, f.1)) ] ];
  entry = g.added e (0, omega arith, refl);
  done = λ k v l d. absurd (omega arith);
  upto = omega arith;
}

pub reaching_next : (E : ℕ → ℕ → Type 0) (e : ℕ) (N : List ℕ) (i : ℕ) (ts N' : List ℕ) → Reaching E e N i → i < length N → ((v : ℕ) → Contains ts v → E (get_or N i 0) v) → ((v : ℕ) → E (get_or N i 0) v → Contains ts v) → GrowsBy N ts N' → Reaching E e N' (i + 1)
reaching_next E e N i ts N' r l to from g = record {
  reached = λ x c. elim (g.only x c) [ inl d ↦ r.reached x d | inr d ↦ way_step (r.reached (get_or N i 0) (node_at N i l)) (to x d) ];
  entry = kept_by N ts N' g e r.entry;
  done = λ k v h d.
      let below : k < length N = omega (arith, r.upto) in
      let d2 : E (get_or N k 0) v = subst (λ (z : ℕ). E z v) (g.kept k below).1 d in
      elim (cases_eq k i) [
        | inl q ↦ g.added v (from v (subst (λ (z : ℕ). E (get_or N z 0) v) q d2))
        | inr n ↦ kept_by N ts N' g v (r.done k v (omega arith) d2)
      ];
  upto = omega (arith, (g.kept i l).0);
}

closed : (E : ℕ → ℕ → Type 0) (e : ℕ) (N : List ℕ) → Reaching E e N (length N) → {a b : ℕ} → Way E AnyNode a b → Contains N a → Contains N b
closed E e N r Stop c = c
closed E e N r (Leave {a = a} {c = d} p t w) c = let q = place_of N a c in closed E e N r w (r.done q.0 d q.1 (subst (λ (z : ℕ). E z d) (sym q.2) t))

pub reaching_end : (E : ℕ → ℕ → Type 0) (e : ℕ) (N : List ℕ) (i : ℕ) → Reaching E e N i → length N ≤ i → ((j k : ℕ) → j < k → k < length N → get_or N j 0 ≢ get_or N k 0) → IsReach E e N
reaching_end E e N i r l d =
    let q : i ≡ length N = omega (arith, r.upto) in
    record { reached = r.reached; all = λ x w. closed E e N (subst (λ (z : ℕ). Reaching E e N z) q r) w r.entry; different = d }

different_distinct : (xs : List ℕ) → ((j k : ℕ) → j < k → k < length xs → get_or xs j 0 ≢ get_or xs k 0) → IsDistinct nat_eq xs
different_distinct xs d = IsDistinct-from_apart nat_eq xs (λ i j e l h.
    elim (eqb_tells (get_or xs i e) (get_or xs j e)) [
      | inl p ↦ absurd (d i j l h (sym (get_or_default_zero xs i e (omega arith)) ∙ p.1 ∙ get_or_default_zero xs j e h))
      | inr p ↦ p.0
    ])

-- where at most n addresses are reached, not more than n are
pub reach_few : (E : ℕ → ℕ → Type 0) (e n : ℕ) (N : List ℕ) → IsReach E e N → length N ≤ n → ReachesOver E e n → ⊥
reach_few E e n N r few o =
    let le : length o.some ≤ length N = length-le_from_is_member nat_eq_equiv o.some N (different_distinct o.some o.different)
    (λ q h. list_any-from_Contains nat_eq_equiv q N (r.all q (o.reached q (Contains-from_any exact_unsigned_eq q o.some h)))) in
    let over : n < length o.some = o.over in
    omega arith
