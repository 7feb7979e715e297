-- A way between cuts stays in its loops, and goes down in the order.
use Rattle.std.proofs.Common.{ℕ, ◌<◌, ◌≢◌, ◌⊎◌, inl, inr, refl, sym, arith, subst}
use Rattle.std.proofs.lemmas.Bool.{cases_eq}
use Rattle.flow_graph.specs.Walks.{Way, Stop, Leave, AnyNode, Reaches}
use Rattle.loop_forest.specs.Loops.{IsPostOrder}
use Rattle.loop_forest.specs.Loops.{IsHead, InLoop, AtHead, Inside, IsExit}
use Rattle.flow_graph.proofs.Ways.{apart_or_from, way-weaken}
use Rattle.loop_forest.proofs.LoopNesting.{loop_is_met}
use Rattle.loop_forest.proofs.BackEdgeLemmas.{Falls, falling_walk, way_falls, way-edges}

-- a loop is second_entry_from at its head alone
pub entered_at_head : (E : ℕ → ℕ → Type 0) (e h x y : ℕ) → E x y → InLoop E e h y → y ≢ h → InLoop E e h x
entered_at_head E e h x _ d AtHead n = absurd (n refl)
entered_at_head E e h x y d (Inside b r) n =
    elim (cases_eq x h) [
      | inl s ↦ subst (λ (z : ℕ). InLoop E e h z) (sym s) AtHead
      | inr m ↦ Inside b (record { way = Leave m d r.way; last = r.last })
    ]

-- and left to an exit: so an edge to a node that is neither a head nor an exit stays in each loop
pub stays_inside : (E : ℕ → ℕ → Type 0) (e h x y : ℕ) → (InLoop E e h y ⊎ (InLoop E e h y → ⊥)) → E x y → (IsExit E e h y → ⊥) → InLoop E e h x → InLoop E e h y
stays_inside E e h x y known d no_exit i = elim known [ inl j ↦ j | inr n ↦ absurd (no_exit (record { from = x; inside = i; edge = d; outside = n })) ]

-- each other node of a loop is left before its head
pub left_in_loop : (E : ℕ → ℕ → Type 0) (e : ℕ) (left : ℕ → ℕ) → IsPostOrder E e left → (h x : ℕ) → Reaches E e x → InLoop E e h x → x ≢ h → left x < left h
left_in_loop E e left s h x r i n =
    elim (apart_or_from h (falling_walk E e left s Stop Stop r)) [
      | inl v ↦ absurd (v.1 ((loop_is_met e h x i).met (way-edges (λ a b t. t.0) (way-weaken (λ a t. t.1) v.0))))
      | inr v ↦ below v n
    ]
  where
    below : {a b : ℕ} → Way (Falls E left) AnyNode a b → b ≢ a → left b < left a
    below Stop n = absurd (n refl)
    below (Leave p d w) n = omega (arith, way_falls E left w, d.1)

-- an edge to a node that is no head goes down
pub down_to_no_head : (E : ℕ → ℕ → Type 0) (e : ℕ) (left : ℕ → ℕ) → IsPostOrder E e left → (u v : ℕ) → Reaches E e u → E u v → (IsHead E e v → ⊥) → left v < left u
down_to_no_head E e left s u v r d n = elim (s.edge u v r d) [ inl l ↦ l | inr m ↦ absurd (n (record { source = u; back = record { edge = d; met = m } })) ]

-- a reached node other than the entry has an edge into it from a reached node
pub has_source : (E : ℕ → ℕ → Type 0) {a b : ℕ} → Reaches E a b → b ≢ a → (u : ℕ) × Reaches E a u × E u b
has_source E Stop n = absurd (n refl)
has_source E (Leave {a = a} {c = c} {b = b} p d w) n =
    elim (cases_eq b c) [
      | inl s ↦ (a, Stop, subst (λ (z : ℕ). E a z) (sym s) d)
      | inr m ↦ let r = has_source E w m in (r.0, Leave p d r.1, r.2)
    ]
