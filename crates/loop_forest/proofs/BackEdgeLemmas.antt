-- In an order that settles each edge, an edge is a back edge exactly where it doesn't go down.
use Rattle.std.proofs.Common.{ℕ, ◌<◌, ◌≤◌, inl, inr, arith, subst}
use Rattle.std.proofs.lemmas.Bool.Decides.{leb_tells}
use Rattle.flow_graph.specs.Walks.{Way, Stop, Leave, AnyNode, Reaches}
use Rattle.loop_forest.specs.Loops.{Dominates, IsPostOrder}
use Rattle.loop_forest.specs.Loops.{IsBackEdge}
use Rattle.flow_graph.proofs.Ways.{way-join, way-weaken, first_or_none, apart_or_from}

-- an edge that goes down
abbrev pub Falls : (E : ℕ → ℕ → Type 0) → (left : ℕ → ℕ) → ℕ → ℕ → Type 0
Falls E left a b = E a b × (left b < left a)

-- the same walk, with edges asked for less
pub way-edges : {E F : ℕ → ℕ → Type 0} {P : ℕ → Type 0} {a b : ℕ} → ((x y : ℕ) → E x y → F x y) → Way E P a b → Way F P a b
way-edges f Stop = Stop
way-edges f (Leave {a = a} {c = c} p d w) = Leave p (f a c d) (way-edges f w)

pub way_falls : (E : ℕ → ℕ → Type 0) (left : ℕ → ℕ) {P : ℕ → Type 0} {a b : ℕ} → Way (Falls E left) P a b → left b ≤ left a
way_falls E left Stop = omega arith
way_falls E left (Leave {a = a} {c = c} p d w) = omega (arith, way_falls E left w, d.1)

-- to each reached node there is a walk that goes down at each edge
pub falling_walk : (E : ℕ → ℕ → Type 0) (e : ℕ) (left : ℕ → ℕ) → IsPostOrder E e left → {a b : ℕ} → Reaches E e a → Way (Falls E left) AnyNode e a → Way E AnyNode a b → Way (Falls E left) AnyNode e b
falling_walk E e left s r f Stop = f
falling_walk E e left s r f (Leave {a = a} {c = c} p d w) =
    falling_walk E e left s (way-join r (Leave tt d Stop))
    (elim (s.edge a c r d) [
      | inl l ↦ way-join f (Leave tt (d, l) Stop)
      | inr m ↦ elim (first_or_none c f) [
        | inl v ↦ subst (λ (z : ℕ). Way (Falls E left) AnyNode e z) (m.met (way-edges (λ x y t. t.0) (way-weaken (λ x t. t.1) v))) f
        | inr v ↦ way-weaken (λ x t. tt) v
      ]
    ])
    w

-- an edge that goes down is no back edge
pub falling_not_back : (E : ℕ → ℕ → Type 0) (e : ℕ) (left : ℕ → ℕ) → IsPostOrder E e left → (u h : ℕ) → Reaches E e u → left h < left u → Dominates E e h u → ⊥
falling_not_back E e left s u h r l m =
    let f = falling_walk E e left s Stop Stop r in
    elim (apart_or_from h f) [
      | inl v ↦ v.1 (m.met (way-edges (λ x y t. t.0) (way-weaken (λ x t. t.1) v.0)))
      | inr v ↦ absurd (omega (arith, way_falls E left v))
    ]

pub back_iff : (E : ℕ → ℕ → Type 0) (e : ℕ) (left : ℕ → ℕ) → IsPostOrder E e left → (u h : ℕ) → Reaches E e u → E u h → (IsBackEdge E e u h → left u ≤ left h) × (left u ≤ left h → IsBackEdge E e u h)
back_iff E e left s u h r d = (
  λ b. elim (s.edge u h r d) [ inl l ↦ absurd (falling_not_back E e left s u h r l b.met) | inr m ↦ not_below (left h) (left u) (λ l. falling_not_back E e left s u h r l b.met) ],
  λ n. record { edge = d; met = elim (s.edge u h r d) [ inl l ↦ absurd (omega arith) | inr m ↦ m ] },
)
  where
    not_below : (a b : ℕ) → (a < b → ⊥) → b ≤ a
    not_below a b n = elim (leb_tells b a) [ inl t ↦ t.1 | inr t ↦ absurd (n t.1) ]
