-- Where each edge goes down in an order or to a node that dominates, no cycle has two entries.
use Rattle.std.proofs.Common.{◌≡◌, ℕ, zero, suc, ◌+◌, ◌-◌, ◌<◌, ◌≤◌, ◌≢◌, List, length, get_or, take, drop, inl, inr, refl, sym, ◌∙◌, arith, subst, ap, length-drop, length-take}
use Rattle.std.proofs.lemmas.List.{get_or-drop, get_or-take}
use Rattle.std.proofs.lemmas.Bool.{cases_eq}
use Rattle.std.proofs.lemmas.Bool.Decides.{leb_tells}
use Rattle.std.specs.List.{Contains}
use Rattle.flow_graph.specs.Walks.{Way, Leave, AnyNode, Reaches}
use Rattle.loop_forest.specs.Loops.{Dominates, IsPostOrder}
use Rattle.loop_forest.specs.Cycles.{IsLinked, last_of, Enters, IsCycle, TwoEntries}
use Rattle.flow_graph.proofs.Ways.{way-join, way-weaken, first_arrival, place_of, node_at}
use Rattle.loop_forest.proofs.WalkLists.{way_between}

-- from each node of a cycle to each other, through nodes of the cycle
pub way_round : {E : ℕ → ℕ → Type 0} (c : List ℕ) → IsCycle E c → (p q : ℕ) → Contains c p → Contains c q → Way E (Contains c) p q
way_round {E} c i p q cp cq =
    let a = place_of c p cp in
    let b = place_of c q cq in
    let some : 0 < length c = i.some in
    let on : Way E (Contains c) (get_or c a.0 0) (last_of c) =
    way_between c a.0 (length c - 1) i.linked (omega arith) (omega arith) (λ k l h. node_at c k (omega arith)) in
    let from : Way E (Contains c) (get_or c 0 0) (get_or c b.0 0) =
    way_between c 0 b.0 i.linked (omega arith) b.1 (λ k l h. node_at c k (omega arith)) in
    subst (λ (n : ℕ). Way E (Contains c) n q) a.2
    (subst (λ (n : ℕ). Way E (Contains c) (get_or c a.0 0) n) b.2
    (way-join on (Leave (node_at c (length c - 1) (omega arith)) i.closed from)))

-- below n, the place with the largest number
largest_place : (left : ℕ → ℕ) (n : ℕ) → (h : ℕ) × (h ≤ n) × ((k : ℕ) → k ≤ n → left k ≤ left h)
largest_place left zero = (0, omega arith, λ k l. let e : k ≡ 0 = omega arith in subst (λ (m : ℕ). left m ≤ left 0) (sym e) (omega arith))
largest_place left (suc n) =
    let r = largest_place left n in
    elim (leb_tells (left (suc n)) (left r.0)) [
      | inl d ↦ (r.0, omega arith, λ k l. elim (cases_eq k (suc n)) [ inl e ↦ subst (λ (m : ℕ). left m ≤ left r.0) (sym e) d.1 | inr m ↦ r.2 k (omega arith) ])
      | inr d ↦ (suc n, omega arith, λ k l. elim (cases_eq k (suc n)) [ inl e ↦ subst (λ (m : ℕ). left m ≤ left (suc n)) (sym e) (omega arith) | inr m ↦ omega (arith, r.2 k (omega arith), d.1) ])
    ]

-- the node with the largest number
pub largest_node : (left : ℕ → ℕ) (c : List ℕ) → 0 < length c → (h : ℕ) × Contains c h × ((n : ℕ) → Contains c n → left n ≤ left h)
largest_node left c some =
    let r = largest_place (λ k. left (get_or c k 0)) (length c - 1) in (
      get_or c r.0 0,
      node_at c r.0 (omega arith),
      λ n cn. let a = place_of c n cn in subst (λ (m : ℕ). left m ≤ left (get_or c r.0 0)) a.2 (r.2 a.0 (omega arith)),
    )

-- the edge of a cycle that leads to the node that was left last leads to a node that dominates it
pub back_edge : {E : ℕ → ℕ → Type 0} (e : ℕ) (left : ℕ → ℕ) → IsPostOrder E e left → (c : List ℕ) → (h : ℕ) → Contains c h → ((n : ℕ) → Contains c n → left n ≤ left h)
    → (u : ℕ) → Contains c u → Reaches E e u → E u h → Dominates E e h u
back_edge e left in_post_order c h ch most u cu r d = elim (in_post_order.edge u h r d) [ inl l ↦ absurd (omega (arith, most u cu)) | inr m ↦ m ]

-- every walk to a cycle first meets the node that was left last
pub enters_at_largest : {E : ℕ → ℕ → Type 0} (e : ℕ) (left : ℕ → ℕ) → IsPostOrder E e left → (c : List ℕ) → IsCycle E c → (h : ℕ) → Contains c h → ((n : ℕ) → Contains c n → left n ≤ left h) → (x : ℕ) → Way E (λ n. Contains c n → ⊥) e x → Contains c x → x ≡ h
enters_at_largest {E} e left in_post_order c i h ch most x w cx =
    elim (cases_eq x h) [
      | inl s ↦ s
      | inr n ↦
          let r = first_arrival h (way_round c i x h cx ch) refl n in
          let there : Way E (λ m. m ≢ h) e x = way-weaken (λ (m : ℕ) (out : Contains c m → ⊥) (q : m ≡ h). out (subst (λ (k : ℕ). Contains c k) (sym q) ch)) w in
          let on : Way E (λ m. m ≢ h) x r.0 = way-weaken (λ m d. d.1) r.1 in
          let reached : Way E AnyNode e r.0 = way-weaken (λ m d. tt) (way-join there on) in
          absurd (r.3 ((back_edge e left in_post_order c h ch most r.0 r.2 reached r.4).met (way-join there on)))
    ]

-- a list that enters a cycle is a walk to it
pub way_of_entry : {E : ℕ → ℕ → Type 0} (c : List ℕ) (e : ℕ) (w : List ℕ) → Enters E c e w → Way E (λ n. Contains c n → ⊥) e (last_of w)
way_of_entry {E} c e w s =
    let some : 0 < length w = s.some in
    subst (λ (a : ℕ). Way E (λ n. Contains c n → ⊥) a (last_of w)) s.starts
    (way_between w 0 (length w - 1) s.linked (omega arith) (omega arith) (λ k l h. s.apart k (omega arith)))

pub none_with_two_entries : {E : ℕ → ℕ → Type 0} (e : ℕ) (left : ℕ → ℕ) → IsPostOrder E e left → TwoEntries E e → ⊥
none_with_two_entries {E} e left in_post_order t =
    let c = t.cycle in
    let s = t.shows in
    let l = largest_node left c s.cycle_is.some in
    s.differ (enters_at_largest e left in_post_order c s.cycle_is l.0 l.1 l.2 (last_of t.first) (way_of_entry c e t.first s.enters_first) s.enters_first.ends
    ∙ sym (enters_at_largest e left in_post_order c s.cycle_is l.0 l.1 l.2 (last_of t.second) (way_of_entry c e t.second s.enters_second) s.enters_second.ends))

-- the other way: a path from e to u with an edge back to its place i is a cycle with an entry there
pub path_cycle : {E : ℕ → ℕ → Type 0} (s : List ℕ) (i : ℕ) → i < length s → IsLinked E s → ((j k : ℕ) → j < k → k < length s → get_or s j 0 ≢ get_or s k 0) → E (last_of s) (get_or s i 0) → IsCycle E (drop i s)
path_cycle {E} s i l linked apart back =
    let n : length (drop i s) ≡ length s - i = length-drop i s in
    record {
      some = omega arith;
      linked = λ k h.
          let e : (i + k) + 1 ≡ i + (k + 1) = omega arith in
          simp get_or-drop (subst (λ (z : ℕ). E (get_or s (i + k) 0) (get_or s z 0)) e (linked (i + k) (omega arith)));
      closed =
          let e : length s - 1 ≡ i + (length (drop i s) - 1) = omega arith in
          let z : i ≡ i + 0 = omega arith in
          simp get_or-drop (subst (λ (m : ℕ). E (get_or s (i + (length (drop i s) - 1)) 0) (get_or s m 0)) z (subst (λ (m : ℕ). E (get_or s m 0) (get_or s i 0)) e back));
      different = λ j k a b. simp get_or-drop (apart (i + j) (i + k) (omega arith) (omega arith));
    }

pub path_enters : {E : ℕ → ℕ → Type 0} (s : List ℕ) (i : ℕ) → i < length s → IsLinked E s → ((j k : ℕ) → j < k → k < length s → get_or s j 0 ≢ get_or s k 0) → Enters E (drop i s) (get_or s 0 0) (take (i + 1) s)
path_enters {E} s i l linked apart =
    let n : length (take (i + 1) s) ≡ i + 1 = omega (arith, length-take (i + 1) s) in
    let m : length (drop i s) ≡ length s - i = length-drop i s in
    let at : (k : ℕ) → k < i + 1 → get_or (take (i + 1) s) k 0 ≡ get_or s k 0 = λ k h. get_or-take (i + 1) s k 0 h in
    let last : length (take (i + 1) s) - 1 ≡ i = omega arith in
    let last_is : last_of (take (i + 1) s) ≡ get_or s i 0 = subst (λ (z : ℕ). get_or (take (i + 1) s) z 0 ≡ get_or s i 0) (sym last) (at i (omega arith)) in
    record {
      some = omega arith;
      starts = at 0 (omega arith);
      linked = λ k h. subst (λ (z : ℕ). E z (get_or (take (i + 1) s) (k + 1) 0)) (sym (at k (omega arith))) (subst (λ (z : ℕ). E (get_or s k 0) z) (sym (at (k + 1) (omega arith))) (linked k (omega arith)));
      apart = λ k h c.
          let p = place_of (drop i s) (get_or (take (i + 1) s) k 0) c in
          apart k (i + p.0) (omega arith) (omega (arith, p.1)) (sym (at k (omega arith)) ∙ sym p.2 ∙ get_or-drop i s p.0 0);
      ends = subst (λ (z : ℕ). Contains (drop i s) z) (get_or-drop i s 0 0 ∙ (let z : i + 0 ≡ i = omega arith in ap (λ m. get_or s m 0) z) ∙ sym last_is) (node_at (drop i s) 0 (omega arith));
    }
