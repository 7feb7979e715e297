-- A walk that is followed step by step.
use Rattle.std.proofs.Common.{◌≡◌, ℕ, ◌+◌, ◌-◌, ◌<◌, ◌≢◌, List, [], ◌∷◌, ◌++◌, length, get_or, inl, inr, refl, sym, ◌∙◌, arith, subst, ap, length-append, Bool, true, false, nat_eq, IsTrue, ◌↔◌, ◌⊎◌, true≢false}
use Rattle.std.specs.List.{Contains}
use Rattle.std.proofs.lemmas.Bool.{cases_eq}
use Rattle.std.proofs.lemmas.Grind.{get_or_default_zero}
use Rattle.std.proofs.lemmas.List.{get_or_append_left}
use Rattle.std.specs.List.{IsAnyAnswer}
use Rattle.std.specs.Bool.{Decides}
use Rattle.std.proofs.lemmas.List.Elements.{contains_decides, Decides-contains}
use Rattle.std.proofs.lemmas.Bool.Decides.{Decides-eqb}
use Rattle.std.proofs.Math.Seq.{get_or-append_seam}
use Rattle.flow_graph.specs.Walks.{Way, Stop, Leave}
use Rattle.loop_forest.specs.Cycles.{IsLinked, last_of}
use Rattle.loop_forest.specs.Loops.{Dominates}
use Rattle.flow_graph.specs.Graph.{GraphOf, HasEdge}
use Rattle.loop_forest.specs.inner.Search.{FindsSources}
use Rattle.loop_forest.specs.inner.SecondEntry.{EntersBeside}
use Rattle.flow_graph.proofs.Ways.{Contains-cons}

-- the nodes so far, none of them on the cycle, and x after them
pub record Follows (g : GraphOf) (cycle : List ℕ) (e : ℕ) (walk : List ℕ) (x : ℕ) : Type 0 where
  pub starts : get_or (walk ++ x ∷ []) 0 0 ≡ e
  pub linked : IsLinked (HasEdge g) (walk ++ x ∷ [])
  pub apart : (k : ℕ) → k < length walk → Contains cycle (get_or walk k 0) → ⊥

pub last_pushed : (w : List ℕ) (x : ℕ) → last_of (w ++ x ∷ []) ≡ x
last_pushed w x =
    let e : length (w ++ x ∷ []) - 1 ≡ length w = omega (arith, length-append w (x ∷ [])) in
    ap (λ k. get_or (w ++ x ∷ []) k 0) e ∙ get_or-append_seam w x [] 0

pub linked_push : (E : ℕ → ℕ → Type 0) (w : List ℕ) (x : ℕ) → IsLinked E w → E (last_of w) x → IsLinked E (w ++ x ∷ [])
linked_push E w x l e k h =
    let n : length (w ++ x ∷ []) ≡ length w + 1 = length-append w (x ∷ []) in
    subst (λ (z : ℕ). E z (get_or (w ++ x ∷ []) (k + 1) 0)) (sym (get_or_append_left w (x ∷ []) 0 k (omega arith)))
    (elim (cases_eq (k + 1) (length w)) [
      | inl q ↦
          let m : k ≡ length w - 1 = omega arith in
          subst (λ (z : ℕ). E (get_or w k 0) (get_or (w ++ x ∷ []) z 0)) (sym q)
          (subst (λ (z : ℕ). E (get_or w k 0) z) (sym (get_or-append_seam w x [] 0)) (subst (λ (z : ℕ). E (get_or w z 0) x) (sym m) e))
      | inr q ↦ subst (λ (z : ℕ). E (get_or w k 0) z) (sym (get_or_append_left w (x ∷ []) 0 (k + 1) (omega arith))) (l k (omega arith))
    ])

pub follows_none : (g : GraphOf) (cycle : List ℕ) (x : ℕ) → Follows g cycle x [] x
follows_none g cycle x = record { starts = refl; linked = λ k h. absurd (omega arith); apart = λ k h c. absurd (omega arith) }

pub follows_more : (g : GraphOf) (cycle : List ℕ) (e : ℕ) (walk : List ℕ) (x y : ℕ) → Follows g cycle e walk x → (Contains cycle x → ⊥) → HasEdge g x y → Follows g cycle e (walk ++ x ∷ []) y
follows_more g cycle e walk x y f out d =
    let n : length (walk ++ x ∷ []) ≡ length walk + 1 = length-append walk (x ∷ []) in
    record {
      starts = get_or_append_left (walk ++ x ∷ []) (y ∷ []) 0 0 (omega arith) ∙ f.starts;
      linked = linked_push (HasEdge g) (walk ++ x ∷ []) y f.linked (subst (λ (z : ℕ). HasEdge g z y) (sym (last_pushed walk x)) d);
      apart = λ k h c. elim (cases_eq k (length walk)) [
        | inl q ↦ out (subst (λ (z : ℕ). Contains cycle z) (ap (λ m. get_or (walk ++ x ∷ []) m 0) q ∙ get_or-append_seam walk x [] 0) c)
        | inr q ↦ f.apart k (omega arith) (subst (λ (z : ℕ). Contains cycle z) (get_or_append_left walk (x ∷ []) 0 k (omega arith)) c)
      ];
    }

pub follows_end : (g : GraphOf) (cycle : List ℕ) (e h : ℕ) (walk : List ℕ) (x : ℕ) → Follows g cycle e walk x → Contains cycle x → x ≢ h → EntersBeside g cycle e h (walk ++ x ∷ [])
follows_end g cycle e h walk x f on beside =
    let n : length (walk ++ x ∷ []) ≡ length walk + 1 = length-append walk (x ∷ []) in
    record {
      enters = record {
        some = omega arith;
        starts = f.starts;
        linked = f.linked;
        apart = λ k l c. f.apart k (omega arith) (subst (λ (z : ℕ). Contains cycle z) (get_or_append_left walk (x ∷ []) 0 k (omega arith)) c);
        ends = subst (λ (z : ℕ). Contains cycle z) (sym (last_pushed walk x)) on;
      };
      beside = λ q. beside (sym (last_pushed walk x) ∙ q);
    }

-- the place after place k, where the node there is not on a cycle that has the target
pub leads_on : (g : GraphOf) (u h : ℕ) (N T : List ℕ) (cycle : List ℕ) → FindsSources g (u ∷ []) h N T → Contains cycle u → (k : ℕ) → k < length N → (Contains cycle (get_or N k 0) → ⊥)
    → (get_or T k 0 < k) × HasEdge g (get_or N k 0) (get_or N (get_or T k 0) 0)
leads_on g u h N T cycle f on k l out = elim (f.onward k l) [
  | inl c ↦ elim (Contains-cons u [] (get_or N k 0) c) [ inl e ↦ absurd (out (subst (λ (z : ℕ). Contains cycle z) e on)) | inr d ↦ absurd (omega (arith, d.1)) ]
  | inr d ↦ d
]

-- a node that was found is not h
pub found_beside : (g : GraphOf) (targets : List ℕ) (h : ℕ) (N T : List ℕ) → FindsSources g targets h N T → (x : ℕ) → Contains N x → x ≢ h
found_beside g targets h N T f x c = let r = (f.sound x c).reaches in start_beside r.way r.last
  where
    start_beside : {E : ℕ → ℕ → Type 0} {x u h : ℕ} → Way E (λ n. n ≢ h) x u → u ≢ h → x ≢ h
    start_beside Stop n = n
    start_beside (Leave p e w) n = p

-- where the entry was not found, every walk to u meets h
pub met_where_none : (g : GraphOf) (e u h : ℕ) (N T : List ℕ) → FindsSources g (u ∷ []) h N T → (Contains N e → ⊥) → Dominates (HasEdge g) e h u
met_where_none g e u h N T f out = record {
  met = λ w. elim (cases_eq u h) [
    | inl s ↦ s
    | inr n ↦ absurd (out (f.complete e (record { target = u; among = (0, omega arith, refl); reaches = record { way = w; last = n } })))
  ];
}

-- what a step of the loop does
pub follow_step : (g : GraphOf) (u h : ℕ) (N T : List ℕ) (cycle : List ℕ) (e : ℕ) (walk : List ℕ) (x k next r : ℕ) → FindsSources g (u ∷ []) h N T → Contains cycle u → k < length N → x ≡ get_or N k 0
    → next ≡ get_or T k next → r ≡ get_or N next 0 → (Contains cycle x → ⊥) → Follows g cycle e walk x → (next < k) × (next < length N) × Follows g cycle e (walk ++ x ∷ []) r
follow_step g u h N T cycle e walk x k next r f on l x_is next_is r_is out follows =
    let at : next ≡ get_or T k 0 = next_is ∙ get_or_default_zero T k next (omega (arith, f.as_long)) in
    let d = leads_on g u h N T cycle f on k l (λ c. out (subst (λ (z : ℕ). Contains cycle z) (sym x_is) c)) in
    let edge : HasEdge g x r = subst (λ (z : ℕ). HasEdge g z r) (sym x_is) (subst (λ (z : ℕ). HasEdge g (get_or N k 0) z) (ap (λ m. get_or N m 0) (sym at) ∙ sym r_is) d.1) in
    let lt : next < k = omega (arith, d.0) in
    (lt, omega arith, follows_more g cycle e walk x r follows out edge)

pub next_below : (g : GraphOf) (u h : ℕ) (N T : List ℕ) (cycle : List ℕ) (x k next : ℕ) → FindsSources g (u ∷ []) h N T → Contains cycle u → k < length N → x ≡ get_or N k 0
    → next ≡ get_or T k next → (Contains cycle x → ⊥) → next < k
next_below g u h N T cycle x k next f on l x_is next_is out =
    let at : next ≡ get_or T k 0 = next_is ∙ get_or_default_zero T k next (omega (arith, f.as_long)) in
    let d = leads_on g u h N T cycle f on k l (λ c. out (subst (λ (z : ℕ). Contains cycle z) (sym x_is) c)) in
    omega (arith, d.0)

pub decides_on : (cycle : List ℕ) (x : ℕ) (b : Bool) → IsAnyAnswer (λ y t. nat_eq y x ≡ t) cycle b → Decides b (Contains cycle x)
decides_on cycle x b a = Decides-contains cycle x b (contains_decides nat_eq Decides-eqb cycle x b a)

-- what differs from the head is an end where it is among the exits
pub end_iff : (exits : List ℕ) (x head : ℕ) (b : Bool) → x ≢ head → IsAnyAnswer (λ y t. nat_eq y x ≡ t) exits b → IsTrue b ↔ ((x ≡ head) ⊎ Contains exits x)
end_iff exits x head b ne a = by b refl
  where
    by : (t : Bool) → b ≡ t → IsTrue b ↔ ((x ≡ head) ⊎ Contains exits x)
    by true e = ((λ t. inr ((decides_on exits x b a).0 e)), (λ d. e))
    by false e = ((λ t. absurd (true≢false (sym t ∙ e))), (λ d. elim d [ inl q ↦ absurd (ne q) | inr c ↦ (decides_on exits x b a).1 c ]))
