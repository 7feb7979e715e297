-- Two loops are nested or apart.
use Rattle.std.proofs.Common.{◌≡◌, ℕ, ◌≢◌, ◌⊎◌, List, length, ◌<◌, ◌-◌, get_or, inl, inr, refl, sym, ◌∙◌, arith, subst, ap, ◌+◌}
use Rattle.std.proofs.lemmas.Bool.{cases_eq}
use Rattle.std.specs.List.{Contains}
use Rattle.flow_graph.specs.Walks.{Way, Leave, Reaches}
use Rattle.loop_forest.specs.Loops.{Dominates, IsPostOrder}
use Rattle.loop_forest.specs.Cycles.{IsCycle, last_of}
use Rattle.loop_forest.specs.Loops.{IsHead, InLoop, AtHead, Inside}
use Rattle.flow_graph.proofs.Ways.{way-join, way-weaken, first_or_none, last_or_none, apart_or_from, place_of, node_at}
use Rattle.loop_forest.proofs.OneEntry.{largest_node, back_edge, way_round}

-- the first part of a walk to h leaves no h
pub to_first : {E : ℕ → ℕ → Type 0} {P : ℕ → Type 0} (a h : ℕ) → Way E P a h → Way E (λ x. P x × (x ≢ h)) a h
to_first a h w = elim (first_or_none h w) [ inl v ↦ v | inr v ↦ v ]

-- every walk from the entry to a node of the loop meets the head
pub loop_is_met : {E : ℕ → ℕ → Type 0} (e h x : ℕ) → InLoop E e h x → Dominates E e h x
loop_is_met e h _ AtHead = record { met = λ w. refl }
loop_is_met e h x (Inside b r) = record { met = λ w. absurd (r.last (b.met.met (way-join w r.way))) }

-- of two different nodes that are reached not each dominates the other
pub met_before_differ : {E : ℕ → ℕ → Type 0} (e a b : ℕ) → Reaches E e a → Dominates E e a b → Dominates E e b a → a ≡ b
met_before_differ e a b r ab ba =
    elim (first_or_none b (to_first e a r)) [
      | inl w ↦ ba.met (way-weaken (λ n d. d.1) w)
      | inr w ↦ sym (ab.met (way-weaken (λ n d. d.0.1) w))
    ]

-- the loop of a head inside another loop lies in that loop
pub inner_loop : {E : ℕ → ℕ → Type 0} (e g h : ℕ) → Reaches E e g → g ≢ h → InLoop E e g h → (y : ℕ) → InLoop E e h y → InLoop E e g y
inner_loop e g h reached differ in_g _ AtHead = in_g
inner_loop {E} e g h reached differ in_g y (Inside {x} {u} b r) =
    elim (apart_or_from g r.way) [
      | inr v ↦ absurd (differ (met_before_differ e g h reached (loop_is_met e g h in_g) (loop_is_met e h g (Inside b (record { way = v; last = r.last })))))
      | inl v ↦ onward e g h differ in_g y u (way-weaken (λ n d. d.1) v.0) v.1 b.edge
    ]
  where
    onward : {E : ℕ → ℕ → Type 0} (e g h : ℕ) → g ≢ h → InLoop E e g h → (y u : ℕ) → Way E (λ n. n ≢ g) y u → u ≢ g → E u h → InLoop E e g y
    onward e g _ differ AtHead y u w n d = absurd (differ refl)
    onward e g h differ (Inside b r) y u w n d = Inside b (record { way = way-join w (Leave n d r.way); last = r.last })

-- a head that leads to a node of another loop without meeting that loop's head lies in that loop
leads_in : {E : ℕ → ℕ → Type 0} (e g z : ℕ) → z ≢ g → InLoop E e g z → (t c : ℕ) → t ≢ g → E t c → Way E (λ n. n ≢ g) c z → InLoop E e g t
leads_in e g _ apart AtHead t c n d w = absurd (apart refl)
leads_in e g z apart (Inside b r) t c n d w = Inside b (record { way = Leave n d (way-join w r.way); last = r.last })

pub nested_or_apart : {E : ℕ → ℕ → Type 0} (e g h : ℕ) → Reaches E e g → Reaches E e h → (z : ℕ) → Reaches E e z → InLoop E e g z → InLoop E e h z
    → ((y : ℕ) → InLoop E e g y → InLoop E e h y) ⊎ ((y : ℕ) → InLoop E e h y → InLoop E e g y)
nested_or_apart {E} e g h to_g to_h z to_z in_g in_h =
    elim (cases_eq g h) [
      | inl s ↦ inl (λ y d. subst (λ (n : ℕ). InLoop E e n y) s d)
      | inr differ ↦
          let apart : h ≢ g = λ q. differ (sym q) in
          elim (cases_eq z g) [
            | inl s ↦ inl (λ y d. inner_loop e h g to_h apart (subst (λ (n : ℕ). InLoop E e h n) s in_h) y d)
            | inr zg ↦ elim (cases_eq z h) [
              | inl s ↦ inr (λ y d. inner_loop e g h to_g differ (subst (λ (n : ℕ). InLoop E e g n) s in_g) y d)
              | inr zh ↦ elim (last_or_none (λ n. (n ≡ g) ⊎ (n ≡ h)) (tells g h) to_z) [
                | inl w ↦ absurd (zg ((loop_is_met e g z in_g).met (way-weaken (λ n d q. d.1 (inl q)) w)))
                | inr l ↦ elim l.2 [
                  | inl s ↦ inl (λ y d. inner_loop e h g to_h apart
                      (leads_in e h z zh in_h g l.1 differ (subst (λ (n : ℕ). E n l.1) s l.3) (way-weaken (λ n d q. d.1 (inr q)) l.4)) y d)
                  | inr s ↦ inr (λ y d. inner_loop e g h to_g differ
                      (leads_in e g z zg in_g h l.1 apart (subst (λ (n : ℕ). E n l.1) s l.3) (way-weaken (λ n d q. d.1 (inl q)) l.4)) y d)
                ]
              ]
            ]
          ]
    ]
  where
    tells : (g h : ℕ) (x : ℕ) → ((x ≡ g) ⊎ (x ≡ h)) ⊎ (((x ≡ g) ⊎ (x ≡ h)) → ⊥)
    tells g h x = elim (cases_eq x g) [ inl s ↦ inl (inl s) | inr m ↦ elim (cases_eq x h) [ inl s ↦ inl (inr s) | inr n ↦ inr (λ d. elim d [ inl q ↦ m q | inr q ↦ n q ]) ] ]

-- in an order that settles each edge, every cycle that is reached has a loop head, and every walk to the cycle meets it first
pub cycle_head : {E : ℕ → ℕ → Type 0} (e : ℕ) (left : ℕ → ℕ) → IsPostOrder E e left → (c : List ℕ) → IsCycle E c → (x : ℕ) → Contains c x → Reaches E e x → (h : ℕ) × Contains c h × IsHead E e h
cycle_head {E} e left in_post_order c i x cx to_x =
    let l = largest_node left c i.some in
    let p = place_of c l.0 l.1 in
    let u = before c i l.0 l.1 in
    (l.0, l.1, record { source = u.0; back = record { edge = u.2; met = back_edge e left in_post_order c l.0 l.1 l.2 u.0 u.1 (way-join to_x (way-weaken (λ n d. tt) (way_round c i x u.0 cx u.1))) u.2 } })
  where
    -- the node of the cycle before h
    before : {E : ℕ → ℕ → Type 0} (c : List ℕ) → IsCycle E c → (h : ℕ) → Contains c h → (u : ℕ) × Contains c u × E u h
    before {E} c i h ch =
        let p = place_of c h ch in
        let some : 0 < length c = i.some in
        elim (cases_eq p.0 0) [
          | inl s ↦ (
            last_of c,
            node_at c (length c - 1) (omega arith),
            subst (λ (n : ℕ). E (last_of c) n) (ap (λ m. get_or c m 0) (sym s) ∙ p.2) i.closed,
          )
          | inr n ↦
              let q : (p.0 - 1) + 1 ≡ p.0 = omega arith in (
                get_or c (p.0 - 1) 0,
                node_at c (p.0 - 1) (omega arith),
                subst (λ (n : ℕ). E (get_or c (p.0 - 1) 0) n) (ap (λ m. get_or c m 0) q ∙ p.2) (i.linked (p.0 - 1) (omega arith)),
              )
        ]
