-- The beginning and the ends of a search in depth.
use Rattle.std.proofs.Common.{◌≡◌, ℕ, zero, suc, ◌+◌, ◌-◌, ◌<◌, ◌≤◌, ◌≢◌, List, [], ◌∷◌, length, get_or, take, drop, inl, inr, refl, sym, ◌∙◌, arith, subst, ap, length-take, Bool, true, false, cond, true≢false, replicate, ◌==◌}
use Rattle.std.specs.List.{count_by, sum_by, fold}
use Rattle.std.proofs.lemmas.Bool.{cases_eq}
use Rattle.std.proofs.lemmas.List.{get_or-take, length-replicate}
use Rattle.std.proofs.lemmas.List.Sums.{sum_by-set}
use Rattle.std.proofs.lemmas.Grind.{get_or_default_zero}
use Rattle.std.proofs.lemmas.Bool.Decides.{Decides-eqb}
use Rattle.std.proofs.Math.ListN.{set, length-set}
use Rattle.flow_graph.specs.Graph.{GraphOf, HasEdge}
use Rattle.flow_graph.specs.Walks.{Way, Stop, Leave, AnyNode, Reaches}
use Rattle.loop_forest.specs.Cycles.{last_of, ShowsTwoEntries, Enters}
use Rattle.loop_forest.specs.Loops.{IsPostOrder}
use Rattle.loop_forest.specs.inner.SecondEntry.{EntersBeside}
use Rattle.loop_forest.specs.inner.DepthFirst.{mark_of, is_new, number_of, Searching}
use Rattle.loop_forest.specs.declared.depth_first.Mark.{Mark}
use Rattle.loop_forest.specs.declared.depth_first.Mark.TheVariants.{New, OnPath, Done}
use Rattle.loop_forest.proofs.DepthFirstInvariant.{was_left, marked_below, mark_same, mark_other, open_same, open_not_left}
use Rattle.loop_forest.proofs.OneEntry.{path_cycle, path_enters}

unseen_replicate : (n x : ℕ) → mark_of (replicate n New) x ≡ New
unseen_replicate zero x = refl
unseen_replicate (suc n) zero = refl
unseen_replicate (suc n) (suc x) = unseen_replicate n x

-- the entry is on the path, all else is unseen
pub searching_start : (g : GraphOf) (e n : ℕ) → n ≡ length g.addrs → e < n → Searching g e (set (replicate n New) e (OnPath 0)) (e ∷ []) 0
searching_start g e n long l =
    let M : List Mark = replicate n New in
    let within : e < length M = omega (arith, length-replicate n New) in
    let only : (x : ℕ) → x ≢ e → mark_of (set M e (OnPath 0)) x ≡ New = λ x o. mark_other M e (OnPath 0) x o ∙ unseen_replicate n x in
    record {
      opened = λ j h. let z : j ≡ 0 = omega arith in ap (λ k. mark_of (set M e (OnPath 0)) (get_or (e ∷ []) k 0)) z ∙ mark_same M e (OnPath 0) within e refl ∙ ap OnPath (sym z);
      on_path = λ x j h. elim (cases_eq x e) [
        | inl q ↦ let z : 0 ≡ j = open_same 0 j (sym (mark_same M e (OnPath 0) within x q) ∙ h) in (omega arith, ap (λ k. get_or (e ∷ []) k 0) (sym z) ∙ sym q)
        | inr o ↦ absurd (true≢false (ap is_new (sym (only x o) ∙ h)))
      ];
      linked = λ k h. absurd (omega arith);
      starts = λ h. refl;
      seen = ap is_new (mark_same M e (OnPath 0) within e refl);
      left = λ u m h. elim (cases_eq u e) [
        | inl q ↦ absurd (open_not_left 0 m (sym (mark_same M e (OnPath 0) within u q) ∙ h))
        | inr o ↦ absurd (true≢false (ap is_new (sym (only u o) ∙ h)))
      ];
      different = λ u w m h k. elim (cases_eq u e) [
        | inl q ↦ absurd (open_not_left 0 m (sym (mark_same M e (OnPath 0) within u q) ∙ h))
        | inr o ↦ absurd (true≢false (ap is_new (sym (only u o) ∙ h)))
      ];
      as_long = length-set M e (OnPath 0) ∙ length-replicate n New ∙ long;
    }

-- 1 for an unseen node
abbrev pub weight : Mark → ℕ
weight m = cond (is_new m) 1 0

-- how many are unseen after a mark
pub unseen_set : (marks : List Mark) (v : ℕ) (m : Mark) → v < length marks → is_new m ≡ false → count_by is_new (set marks v m) + weight (mark_of marks v) ≡ count_by is_new marks
unseen_set marks v m l s =
    let e : sum_by weight (set marks v m) + weight (mark_of marks v) ≡ sum_by weight marks + weight m = sum_by-set weight marks v m New l in
    let z : weight m ≡ 0 = ap (λ (b : Bool). cond b 1 0) s in
    omega (arith, e, z)

count_from : (a n : ℕ) → fold (λ a x. a + weight x) a (replicate n New) ≡ a + n
count_from a zero = omega arith
count_from a (suc n) = count_from (a + 1) n ∙ (let z : (a + 1) + n ≡ a + suc n = omega arith in z)

pub count_replicate : (n : ℕ) → count_by is_new (replicate n New) ≡ n
count_replicate n = count_from 0 n ∙ (let z : 0 + n ≡ n = omega arith in z)

-- where the path is empty, every reached node was left, so each edge is in_post_order
reached_left : (g : GraphOf) (e : ℕ) (marks : List Mark) (count : ℕ) → Searching g e marks [] count → {a b : ℕ} → Way (HasEdge g) AnyNode a b → (n : ℕ) × (mark_of marks a ≡ Done n) → (n : ℕ) × (mark_of marks b ≡ Done n)
reached_left g e marks count s Stop h = h
reached_left g e marks count s (Leave {a = a} {c = c} p d w) h =
    reached_left g e marks count s w (elim ((s.left a h.0 h.1).1 c d) [ inl m ↦ (m.0, m.1) | inr b ↦ closed_left g e marks count s c b.1 ])
  where
    closed_left : (g : GraphOf) (e : ℕ) (marks : List Mark) (count : ℕ) → Searching g e marks [] count → (x : ℕ) → is_new (mark_of marks x) ≡ false → (n : ℕ) × (mark_of marks x ≡ Done n)
    closed_left g e marks count s x seen = was_left (mark_of marks x) seen (λ i q. absurd (omega (arith, (s.on_path x i q).0)))

pub post_order_end : (g : GraphOf) (e : ℕ) (marks : List Mark) (count : ℕ) → Searching g e marks [] count → IsPostOrder (HasEdge g) e (λ x. number_of (mark_of marks x))
post_order_end g e marks count s = record {
  edge = λ u v r d.
      let n = reached_left g e marks count s r (was_left (mark_of marks e) s.seen (λ i q. absurd (omega (arith, (s.on_path e i q).0)))) in
      elim ((s.left u n.0 n.1).1 v d) [
        | inl m ↦
            let at_v : number_of (mark_of marks v) ≡ m.0 = ap number_of m.1 in
            let at_u : number_of (mark_of marks u) ≡ n.0 = ap number_of n.1 in
            inl (omega (arith, m.2))
        | inr b ↦ inr b.0
      ];
}

pub post_order_at_end : (g : GraphOf) (e : ℕ) (marks : List Mark) (path : List ℕ) (count : ℕ) → Searching g e marks path count → length path ≡ 0 → IsPostOrder (HasEdge g) e (λ x. number_of (mark_of marks x))
post_order_at_end g e marks [] count s z = post_order_end g e marks count s
post_order_at_end g e marks (x ∷ xs) count s z = absurd (omega arith)

pub different_end : (g : GraphOf) (e : ℕ) (marks : List Mark) (count : ℕ) → Searching g e marks [] count → (u v : ℕ) → Reaches (HasEdge g) e u → Reaches (HasEdge g) e v
    → number_of (mark_of marks u) ≡ number_of (mark_of marks v) → u ≡ v
different_end g e marks count s u v r t same =
    let start = was_left (mark_of marks e) s.seen (λ i q. absurd (omega (arith, (s.on_path e i q).0))) in
    let n = reached_left g e marks count s r start in
    let m = reached_left g e marks count s t start in
    let one : m.0 ≡ n.0 = sym (ap number_of m.1) ∙ sym same ∙ ap number_of n.1 in
    s.different u v n.0 n.1 (m.1 ∙ ap Done one)

pub different_at_end : (g : GraphOf) (e : ℕ) (marks : List Mark) (path : List ℕ) (count : ℕ) → Searching g e marks path count → length path ≡ 0 → (u v : ℕ) → Reaches (HasEdge g) e u → Reaches (HasEdge g) e v
    → number_of (mark_of marks u) ≡ number_of (mark_of marks v) → u ≡ v
different_at_end g e marks [] count s z = different_end g e marks count s
different_at_end g e marks (x ∷ xs) count s z = absurd (omega arith)

-- an edge back to the path, and a walk that enters beside
pub two_entries : (g : GraphOf) (e : ℕ) (marks : List Mark) (path : List ℕ) (count i : ℕ) (second : List ℕ) → Searching g e marks path count → i < length path → HasEdge g (last_of path) (get_or path i 0) → EntersBeside g (drop i path) e (get_or path i 0) second
    → ShowsTwoEntries (HasEdge g) e (drop i path) (take (i + 1) path) second
two_entries g e marks path count i second s l d b =
    let apart : (j k : ℕ) → j < k → k < length path → get_or path j 0 ≢ get_or path k 0 =
    λ j k lt h q. let same : j ≡ k = open_same j k (sym (s.opened j (omega arith)) ∙ ap (λ z. mark_of marks z) q ∙ s.opened k h) in omega arith in
    let n : length (take (i + 1) path) ≡ i + 1 = omega (arith, length-take (i + 1) path) in
    let at : length (take (i + 1) path) - 1 ≡ i = omega arith in
    let last_is : last_of (take (i + 1) path) ≡ get_or path i 0 = ap (λ k. get_or (take (i + 1) path) k 0) at ∙ get_or-take (i + 1) path i 0 (omega arith) in
    let some : 0 < length path = omega arith in
    record {
      cycle_is = path_cycle path i l s.linked apart d;
      enters_first = subst (λ (a : ℕ). Enters (HasEdge g) (drop i path) a (take (i + 1) path)) (s.starts some) (path_enters path i l s.linked apart);
      enters_second = b.enters;
      differ = λ q. b.beside (sym q ∙ last_is);
    }

-- the path's last node is a node
pub top_below : (g : GraphOf) (e : ℕ) (marks : List Mark) (path : List ℕ) (count u : ℕ) → Searching g e marks path count → 0 < length path → u ≡ last_of path → u < length marks
top_below g e marks path count u s some u_is = marked_below marks u (ap (λ z. is_new (mark_of marks z)) u_is ∙ ap is_new (s.opened (length path - 1) (omega arith)))

pub top_weight : (g : GraphOf) (e : ℕ) (marks : List Mark) (path : List ℕ) (count u : ℕ) → Searching g e marks path count → 0 < length path → u ≡ last_of path → weight (mark_of marks u) ≡ 0
top_weight g e marks path count u s some u_is = ap (λ z. weight (mark_of marks z)) u_is ∙ ap weight (s.opened (length path - 1) (omega arith))

pub not_empty : (n : ℕ) → false ≡ (n == 0) → 0 < n
not_empty zero h = absurd (true≢false (sym h))
not_empty (suc n) h = omega arith

pub is_empty : (n : ℕ) → true ≡ (n == 0) → n ≡ 0
is_empty n h = (Decides-eqb n 0).0 (sym h)

-- u is the last node of the path
pub top_is : (path : List ℕ) (u n : ℕ) → n ≡ length path → 0 < n → u ≡ get_or path (n - 1) u → u ≡ last_of path
top_is path u n e some h = h ∙ get_or_default_zero path (n - 1) u (omega arith) ∙ ap (λ k. get_or path (k - 1) 0) e

-- one node fewer is unseen, and the path is one longer
pub total_down : (marks : List Mark) (v i : ℕ) → v < length marks → mark_of marks v ≡ New → count_by is_new (set marks v (OnPath i)) + 1 ≡ count_by is_new marks
total_down marks v i l unseen =
    let e = unseen_set marks v (OnPath i) l refl in
    let w : weight (mark_of marks v) ≡ 1 = ap weight unseen in
    omega (arith, e)

pub total_up : (marks : List Mark) (u n : ℕ) → u < length marks → weight (mark_of marks u) ≡ 0 → count_by is_new (set marks u (Done n)) ≡ count_by is_new marks
total_up marks u n l seen = let e = unseen_set marks u (Done n) l refl in omega (arith, e)

pub total_start : (e n : ℕ) → e < n → count_by is_new (set (replicate n New) e (OnPath 0)) + 1 ≡ n
total_start e n l = total_down (replicate n New) e 0 (omega (arith, length-replicate n New)) (unseen_replicate n e) ∙ count_replicate n

-- each number is below the count
pub numbers_below : (g : GraphOf) (e : ℕ) (marks : List Mark) (path : List ℕ) (count n : ℕ) → Searching g e marks path count → count ≤ n → (x : ℕ) → number_of (mark_of marks x) ≤ n
numbers_below g e marks path count n s l x = go (mark_of marks x) refl
  where
    go : (m : Mark) → mark_of marks x ≡ m → number_of (mark_of marks x) ≤ n
    go New q = subst (λ (z : Mark). number_of z ≤ n) (sym q) (omega arith)
    go (OnPath i) q = subst (λ (z : Mark). number_of z ≤ n) (sym q) (omega arith)
    go (Done k) q = subst (λ (z : Mark). number_of z ≤ n) (sym q) (let lt = (s.left x k q).0 in omega arith)
