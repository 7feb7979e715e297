-- The order of parts: each part weighs more than those that it calls. And how near the next cut is.
use Rattle.std.proofs.Common.{◌≡◌, ◌≢◌, ℕ, ◌+◌, ◌-◌, ◌*◌, ◌<◌, ◌≤◌, inl, inr, refl, sym, subst, arith, Option, Some, None, List}
use Rattle.std.specs.List.{Contains}
use Rattle.std.proofs.lemmas.Bool.{cases_eq}
use Rattle.flow_graph.specs.Walks.{Way, Stop, Leave, AnyNode, Reaches}
use Rattle.loop_forest.specs.Cycles.{IsCycle}
use Rattle.loop_forest.specs.Loops.{IsPostOrder}
use Rattle.loop_forest.specs.Loops.{IsBackEdge, IsHead, InLoop, AtHead, IsExit}
use Rattle.loop_forest.specs.Cuts.{StepsSinceCut, AtBase, After}
use Rattle.loop_forest.specs.Regions.{IsAround}
use Rattle.loop_forest.specs.inner.Inner.{IsInner}
use Rattle.loop_forest.specs.Cuts.{Head, IsCut}
use Rattle.loop_forest.proofs.LoopNesting.{cycle_head}
use Rattle.loop_forest.proofs.Regions.{down_to_no_head, left_in_loop}
use Rattle.loop_forest.proofs.RegionLaws.{head_reached, nested, one, source_in}
use Rattle.loop_forest.proofs.CutLemmas.{stands_once}

-- the weight of the part Loop of a head, and of the part Rest of a cut
abbrev pub loop_weight : (ℕ → ℕ) → ℕ → ℕ
loop_weight left h = 2 * left h

abbrev pub rest_weight : (ℕ → ℕ) → ℕ → ℕ
rest_weight left n = 2 * left n + 1

module _ (E : ℕ → ℕ → Type 0) (e : ℕ) (reach : (a b : ℕ) → E a b → Reaches E e a) (left : ℕ → ℕ) (in_post_order : IsPostOrder E e left) where
  -- along edges to nodes that are no heads, as within a body, numbers fall
  pub body_falls : {a b : ℕ} → Way (λ x y. E x y × (IsHead E e y → ⊥)) AnyNode a b → left b ≤ left a
  body_falls Stop = omega arith
  body_falls (Leave {a = a} {c = c} p d w) =
      let le = body_falls w in
      let lt = down_to_no_head E e left in_post_order a c (reach a c d.0) d.0 d.1 in
      omega (arith, le, lt)

  -- an edge within a region to a place where its Rest begins, heads of loops inside it included
  pub within_region : (u n : ℕ) (r : Option ℕ) → E u n → IsInner E e u r → IsAround E e n r → left n < left u
  within_region u n r d p q = elim (in_post_order.edge u n (reach u n d) d) [
    | inl lt ↦ lt
    | inr m ↦ absurd (clash r p q (record { edge = d; met = m }))
  ]
    where
      clash : (r : Option ℕ) → IsInner E e u r → IsAround E e n r → IsBackEdge E e u n → ⊥
      clash None p q b = p n (record { source = u; back = b }) (source_in E e reach u n b)
      clash (Some l) p q b =
          let k : IsHead E e n = record { source = u; back = b } in
          q.1 (one E e reach l n (head_reached E e reach n k) q.2 (p.2 n k (source_in E e reach u n b)))

  -- an exit of a loop, in the region around it
  pub after_loop : (h x : ℕ) (r : Option ℕ) → IsHead E e h → IsExit E e h x → IsAround E e h r → IsAround E e x r → left x < left h
  after_loop h x r head exit p q =
      let lt : left x < left exit.from = lower in
      let to : Reaches E e exit.from = reach exit.from x exit.edge in
      elim (cases_eq exit.from h) [
        | inl same ↦ subst (λ (z : ℕ). left x < left z) same lt
        | inr differ ↦ (let le = left_in_loop E e left in_post_order h exit.from to exit.inside differ in omega (arith, lt, le))
      ]
    where
      clash : (r : Option ℕ) → IsAround E e h r → IsAround E e x r → IsHead E e x → x ≢ h → InLoop E e x h → ⊥
      clash None p q k ne has = p x k ne has
      clash (Some l) p q k ne has = q.1 (one E e reach l x (head_reached E e reach x k) q.2 (p.3 x k ne has))

      lower : left x < left exit.from
      lower = elim (in_post_order.edge exit.from x (reach exit.from x exit.edge) exit.edge) [
        | inl lt ↦ lt
        | inr m ↦
            let b : IsBackEdge E e exit.from x = record { edge = exit.edge; met = m } in
            let k : IsHead E e x = record { source = exit.from; back = b } in
            let ne : x ≢ h = (λ z. exit.outside (subst (λ (y : ℕ). InLoop E e h y) (sym z) AtHead)) in
            elim (nested E e reach h x exit.from (head_reached E e reach h head) (head_reached E e reach x k) (reach exit.from x exit.edge) exit.inside (source_in E e reach exit.from x b)) [
              | inl i ↦ absurd (exit.outside i)
              | inr i ↦ absurd (clash r p q k ne i)
            ]
      ]

  -- a Rest that is called at a node of a body weighs less than the part of the body, which begins at a
  pub rest_called : (a u n : ℕ) (r : Option ℕ) → Way (λ x y. E x y × (IsHead E e y → ⊥)) AnyNode a u → E u n → IsInner E e u r → IsAround E e n r
      → (rest_weight left n < loop_weight left a) × (rest_weight left n < rest_weight left a)
  rest_called a u n r w d p q =
      let le = body_falls w in
      let lt = within_region u n r d p q in
      (omega (arith, le, lt), omega (arith, le, lt))

  -- the Loop of a head weighs less than its Rest, and the Rest of an exit less than the Loop
  pub loop_called : (h : ℕ) → loop_weight left h < rest_weight left h
  loop_called h = omega arith

  pub exit_called : (h x : ℕ) (r : Option ℕ) → IsHead E e h → IsExit E e h x → IsAround E e h r → IsAround E e x r → rest_weight left x < rest_weight left h
  exit_called h x r head exit p q = let lt = after_loop h x r head exit p q in omega (arith, lt)

-- ---- places after the last cut

pub stands_below : {E : ℕ → ℕ → Type 0} {Base : ℕ → Type 0} {n k : ℕ} → StepsSinceCut E Base n k → k < 32
stands_below (AtBase b) = omega arith
stands_below (After m d s q) = omega (arith, q)

-- an edge to a node that is no cut comes nearer to 32
pub nearer : {E : ℕ → ℕ → Type 0} {Base : ℕ → Type 0} → ((n u v : ℕ) → (Base n → ⊥) → E u n → E v n → u ≡ v) → (u n k j : ℕ) → E u n → StepsSinceCut E Base u k → StepsSinceCut E Base n j → j ≢ 0 → 31 - j < 31 - k
nearer single u n k j d s (AtBase b) ne = absurd (ne refl)
nearer {E} {Base} single u n k j d s (After {u = v} {k = i} m c t q) ne =
    let same : v ≡ u = single n v u m c d in
    let at : i ≡ k = stands_once single u i k (subst (λ (z : ℕ). StepsSinceCut E Base z i) same t) s in
    let below : k < 32 = stands_below s in
    omega (arith, q, at, below, ne)

-- every reached cycle has a cut
pub cycle_cut : {E : ℕ → ℕ → Type 0} (e : ℕ) (incoming left : ℕ → ℕ) → IsPostOrder E e left → (c : List ℕ) → IsCycle E c → (x : ℕ) → Contains c x → Reaches E e x → (h : ℕ) × Contains c h × IsCut E e incoming h
cycle_cut e incoming left s c i x cx w = let h = cycle_head e left s c i x cx w in (h.0, h.1, AtBase (Head h.2))
