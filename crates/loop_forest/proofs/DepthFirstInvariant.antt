-- What a search in depth keeps.
use Rattle.std.proofs.Common.{◌≡◌, ℕ, ◌+◌, ◌-◌, ◌<◌, ◌≢◌, List, [], ◌∷◌, ◌++◌, length, get_or, take, drop, inl, inr, refl, sym, ◌∙◌, arith, subst, ap, length-append, length-drop, length-take, get_or-set_other, get_or-set_same, false, true≢false, Option, None, Some, IfNone, IfSome}
use Rattle.std.specs.List.{All, Contains}
use Rattle.std.proofs.lemmas.Bool.{cases_eq}
use Rattle.std.proofs.lemmas.List.{get_or_append_left, get_or-drop, get_or-take}
use Rattle.std.proofs.lemmas.List.Elements.{All-contains}
use Rattle.std.proofs.lemmas.Bool.Decides.{leb_tells}
use Rattle.std.proofs.Math.ListN.{set, get_or-eq_default, length-set}
use Rattle.loop_forest.proofs.WalkSteps.{linked_push}
use Rattle.std.proofs.Math.Seq.{get_or-append_seam}
use Rattle.flow_graph.specs.Graph.{GraphOf, HasEdge, succs_of}
use Rattle.loop_forest.specs.Cycles.{last_of}
use Rattle.loop_forest.specs.inner.DepthFirst.{mark_of, is_new, IsDone, Searching}
use Rattle.loop_forest.specs.declared.depth_first.Mark.{Mark}
use Rattle.loop_forest.specs.declared.depth_first.Mark.TheVariants.{New, OnPath, Done}
use Rattle.flow_graph.proofs.Ways.{node_at}

pub is_seen : (m : Mark) → (m ≡ New → ⊥) → is_new m ≡ false
is_seen New n = absurd (n refl)
is_seen (OnPath i) n = refl
is_seen (Done i) n = refl

-- a node that is seen and not open was left
pub was_left : (m : Mark) → is_new m ≡ false → ((i : ℕ) → m ≡ OnPath i → ⊥) → (n : ℕ) × (m ≡ Done n)
was_left New s n = absurd (true≢false s)
was_left (OnPath i) s n = absurd (n i refl)
was_left (Done i) s n = (i, refl)

-- the last node of the path is one of the nodes from place i on
pub last_on_cycle : (path : List ℕ) (i : ℕ) → i < length path → Contains (drop i path) (last_of path)
last_on_cycle path i l =
    let n : length (drop i path) ≡ length path - i = length-drop i path in
    let e : i + (length (drop i path) - 1) ≡ length path - 1 = omega arith in
    subst (λ (z : ℕ). Contains (drop i path) z) (get_or-drop i path (length (drop i path) - 1) 0 ∙ ap (λ k. get_or path k 0) e) (node_at (drop i path) (length (drop i path) - 1) (omega arith))

pub none_holds : {X : Type 0} (o : Option X) (P : Type 0) → o ≡ None → IfNone o P → P
none_holds o P e h = subst (λ (z : Option _). IfNone z P) e h

-- a successor that is seen, and is no open node, or one that every walk meets, is done
pub done_left : (g : GraphOf) (e : ℕ) (marks : List Mark) (path : List ℕ) (count u v : ℕ) → Searching g e marks path count → is_new (mark_of marks v) ≡ false → ((i : ℕ) → mark_of marks v ≡ OnPath i → ⊥) → IsDone g e marks count u v
done_left g e marks path count u v s seen n = let r = was_left (mark_of marks v) seen n in inl (r.0, r.1, (s.left v r.0 r.1).0)

pub some_holds : {X : Type 0} (o : Option X) (P : X → Type 0) (x : X) → o ≡ Some x → IfSome o P → P x
some_holds o P x e h = subst (λ (z : Option _). IfSome z P) e h

-- a marked node is in the table
pub marked_below : (marks : List Mark) (x : ℕ) → is_new (mark_of marks x) ≡ false → x < length marks
marked_below marks x s = elim (leb_tells (length marks) x) [
  | inl d ↦ absurd (true≢false (sym (ap is_new (get_or-eq_default marks New {n = x} d.1)) ∙ s))
  | inr d ↦ d.1
]

pub mark_same : (marks : List Mark) (v : ℕ) (m : Mark) → v < length marks → (x : ℕ) → x ≡ v → mark_of (set marks v m) x ≡ m
mark_same marks v m l x e = ap (λ z. mark_of (set marks v m) z) e ∙ get_or-set_same marks v m New l

pub mark_other : (marks : List Mark) (v : ℕ) (m : Mark) (x : ℕ) → x ≢ v → mark_of (set marks v m) x ≡ mark_of marks x
mark_other marks v m x n = get_or-set_other marks v x m New n

seen_kept : (marks : List Mark) (v : ℕ) (m : Mark) → v < length marks → is_new m ≡ false → (x : ℕ) → is_new (mark_of marks x) ≡ false → is_new (mark_of (set marks v m) x) ≡ false
seen_kept marks v m l s x h = elim (cases_eq x v) [ inl e ↦ ap is_new (mark_same marks v m l x e) ∙ s | inr n ↦ ap is_new (mark_other marks v m x n) ∙ h ]

-- a in_post_order edge stays so, where a node that wasn't left is marked
done_kept : (g : GraphOf) (e : ℕ) (marks : List Mark) (v : ℕ) (m : Mark) → v < length marks → is_new m ≡ false → ((n : ℕ) → mark_of marks v ≡ Done n → ⊥)
    → (n u w : ℕ) → IsDone g e marks n u w → IsDone g e (set marks v m) n u w
done_kept g e marks v m l s open_v n u w (inl d) = inl (d.0, mark_other marks v m w (λ q. open_v d.0 (ap (λ z. mark_of marks z) (sym q) ∙ d.1)) ∙ d.1, d.2)
done_kept g e marks v m l s open_v n u w (inr d) = inr (d.0, seen_kept marks v m l s w d.1)

pub open_same : (i j : ℕ) → OnPath i ≡ OnPath j → i ≡ j
open_same i j h = cc

pub left_same : (i j : ℕ) → Done i ≡ Done j → i ≡ j
left_same i j h = cc

pub open_not_left : (i j : ℕ) → OnPath i ≡ Done j → ⊥
open_not_left i j h = cc

-- the path grows by an unseen node
pub searching_down : (g : GraphOf) (e : ℕ) (marks : List Mark) (path : List ℕ) (count v : ℕ) → Searching g e marks path count → 0 < length path → HasEdge g (last_of path) v → v < length marks → mark_of marks v ≡ New
    → Searching g e (set marks v (OnPath (length path))) (path ++ v ∷ []) count
searching_down g e marks path count v s some edge l unseen =
    let longer : length (path ++ v ∷ []) ≡ length path + 1 = length-append path (v ∷ []) in
    let m : Mark = OnPath (length path) in
    let not_left : (n : ℕ) → mark_of marks v ≡ Done n → ⊥ = λ n q. true≢false (ap is_new (sym unseen ∙ q)) in
    record {
      opened = λ j h. elim (cases_eq j (length path)) [
        | inl q ↦ mark_same marks v m l (get_or (path ++ v ∷ []) j 0) (ap (λ k. get_or (path ++ v ∷ []) k 0) q ∙ get_or-append_seam path v [] 0) ∙ ap OnPath (sym q)
        | inr n ↦
            let at = get_or_append_left path (v ∷ []) 0 j (omega arith) in
            ap (λ z. mark_of (set marks v m) z) at
            ∙ mark_other marks v m (get_or path j 0) (λ q. true≢false (ap is_new (sym unseen ∙ ap (λ z. mark_of marks z) (sym q) ∙ s.opened j (omega arith))))
            ∙ s.opened j (omega arith)
      ];
      on_path = λ x j h. elim (cases_eq x v) [
        | inl q ↦
            let same : length path ≡ j = open_same (length path) j (sym (mark_same marks v m l x q) ∙ h) in
            (omega arith, ap (λ k. get_or (path ++ v ∷ []) k 0) (sym same) ∙ get_or-append_seam path v [] 0 ∙ sym q)
        | inr n ↦
            let old = s.on_path x j (sym (mark_other marks v m x n) ∙ h) in
            (omega (arith, old.0), get_or_append_left path (v ∷ []) 0 j old.0 ∙ old.1)
      ];
      linked = linked_push (HasEdge g) path v s.linked edge;
      starts = λ h. get_or_append_left path (v ∷ []) 0 0 some ∙ s.starts some;
      seen = seen_kept marks v m l refl e s.seen;
      left = λ u n h. elim (cases_eq u v) [
        | inl q ↦ absurd (open_not_left (length path) n (sym (mark_same marks v m l u q) ∙ h))
        | inr o ↦
            let old = s.left u n (sym (mark_other marks v m u o) ∙ h) in
            (old.0, λ w d. done_kept g e marks v m l refl not_left n u w (old.1 w d))
      ];
      different = λ u w n h k. elim (cases_eq u v) [
        | inl q ↦ absurd (open_not_left (length path) n (sym (mark_same marks v m l u q) ∙ h))
        | inr o ↦ elim (cases_eq w v) [
          | inl q ↦ absurd (open_not_left (length path) n (sym (mark_same marks v m l w q) ∙ k))
          | inr p ↦ s.different u w n (sym (mark_other marks v m u o) ∙ h) (sym (mark_other marks v m w p) ∙ k)
        ]
      ];
      as_long = length-set marks v m ∙ s.as_long;
    }

-- the path's last node is left
pub searching_up : (g : GraphOf) (e : ℕ) (marks : List Mark) (path : List ℕ) (count u : ℕ) → Searching g e marks path count → 0 < length path → u ≡ last_of path → All (λ v. IsDone g e marks count u v) (succs_of g.edges u)
    → Searching g e (set marks u (Done count)) (take (length path - 1) path) (count + 1)
searching_up g e marks path count u s some u_is done =
    let shorter : length (take (length path - 1) path) ≡ length path - 1 = omega (arith, length-take (length path - 1) path) in
    let m : Mark = Done count in
    let at_top : mark_of marks u ≡ OnPath (length path - 1) = ap (λ z. mark_of marks z) u_is ∙ s.opened (length path - 1) (omega arith) in
    let l : u < length marks = marked_below marks u (ap is_new at_top) in
    let not_left : (n : ℕ) → mark_of marks u ≡ Done n → ⊥ = λ n q. open_not_left (length path - 1) n (sym at_top ∙ q) in
    let at : (j : ℕ) → j < length path - 1 → get_or (take (length path - 1) path) j 0 ≡ get_or path j 0 = λ j h. get_or-take (length path - 1) path j 0 h in
    record {
      opened = λ j h.
          let below : j < length path - 1 = omega arith in
          let open_j = s.opened j (omega arith) in
          ap (λ z. mark_of (set marks u m) z) (at j below)
          ∙ mark_other marks u m (get_or path j 0) (λ q. let same : j ≡ length path - 1 = open_same j (length path - 1) (sym open_j ∙ ap (λ z. mark_of marks z) q ∙ at_top) in absurd (omega arith))
          ∙ open_j;
      on_path = λ x j h. elim (cases_eq x u) [
        | inl q ↦ absurd (open_not_left j count (sym h ∙ mark_same marks u m l x q))
        | inr n ↦
            let old = s.on_path x j (sym (mark_other marks u m x n) ∙ h) in
            let other : j ≢ length path - 1 = λ q. n (sym old.1 ∙ ap (λ k. get_or path k 0) q ∙ sym u_is) in
            let below : j < length path - 1 = omega (arith, old.0) in
            (omega arith, at j below ∙ old.1)
      ];
      linked = λ k h. subst (λ (z : ℕ). HasEdge g z (get_or (take (length path - 1) path) (k + 1) 0)) (sym (at k (omega arith))) (subst (λ (z : ℕ). HasEdge g (get_or path k 0) z) (sym (at (k + 1) (omega arith))) (s.linked k (omega arith)));
      starts = λ h. at 0 (omega arith) ∙ s.starts some;
      seen = seen_kept marks u m l refl e s.seen;
      left = λ w n h. elim (cases_eq w u) [
        | inl q ↦
            let same : count ≡ n = left_same count n (sym (mark_same marks u m l w q) ∙ h) in (
              omega arith,
              λ v d. subst (λ (k : ℕ). IsDone g e (set marks u m) k w v) same
                  (subst (λ (z : ℕ). IsDone g e (set marks u m) count z v) (sym q)
                  (done_kept g e marks u m l refl not_left count u v (All-contains (λ v. IsDone g e marks count u v) (succs_of g.edges u) v done (subst (λ (z : ℕ). HasEdge g z v) q d)))),
            )
        | inr o ↦
            let old = s.left w n (sym (mark_other marks u m w o) ∙ h) in
            (omega (arith, old.0), λ v d. done_kept g e marks u m l refl not_left n w v (old.1 v d))
      ];
      different = λ w x n h k. elim (cases_eq w u) [
        | inl q ↦
            let same : count ≡ n = left_same count n (sym (mark_same marks u m l w q) ∙ h) in
            elim (cases_eq x u) [
              | inl r ↦ q ∙ sym r
              | inr o ↦ let old = s.left x n (sym (mark_other marks u m x o) ∙ k) in absurd (omega (arith, same, old.0))
            ]
        | inr o ↦ elim (cases_eq x u) [
          | inl r ↦
              let same : count ≡ n = left_same count n (sym (mark_same marks u m l x r) ∙ k) in
              let old = s.left w n (sym (mark_other marks u m w o) ∙ h) in
              absurd (omega (arith, same, old.0))
          | inr p ↦ s.different w x n (sym (mark_other marks u m w o) ∙ h) (sym (mark_other marks u m x p) ∙ k)
        ]
      ];
      as_long = length-set marks u m ∙ s.as_long;
    }
