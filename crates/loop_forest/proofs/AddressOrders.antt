-- From node numbers to addresses: an order that settles the one settles the other.
use Rattle.std.proofs.Common.{◌≡◌, ℕ, ◌<◌, ◌≢◌, inl, inr, refl, sym, ◌∙◌, ap, subst}
use Rattle.flow_graph.specs.Walks.{Way, Stop, Leave, Reaches}
use Rattle.loop_forest.specs.Loops.{IsPostOrder}
use Rattle.flow_graph.proofs.Ways.{way-join, way-weaken}

-- A is between nodes, B between addresses; each edge of a reached node's address is an edge of the node
pub record Numbers (A B : ℕ → ℕ → Type 0) (e : ℕ) (addr node : ℕ → ℕ) : Type 0 where
  pub back : (u b : ℕ) → Reaches A e u → B (addr u) b → (v : ℕ) × A u v × (addr v ≡ b)
  pub same : (u : ℕ) → Reaches A e u → node (addr u) ≡ u

walk_back : {A B : ℕ → ℕ → Type 0} {e : ℕ} {addr node : ℕ → ℕ} → Numbers A B e addr node → {P : ℕ → Type 0} {a b : ℕ} → Way B P a b → (u : ℕ) → Reaches A e u → addr u ≡ a → (v : ℕ) × (addr v ≡ b) × Reaches A e v × Way A (λ n. P (addr n)) u v
walk_back n Stop u r q = (u, q, r, Stop)
walk_back {A} {B} {e} {addr} {node} n {P} (Leave {a = a} {c = c} p d w) u r q =
    let s = n.back u c r (subst (λ (z : ℕ). B z c) (sym q) d) in
    let t = walk_back n w s.0 (way-join r (Leave tt s.1 Stop)) s.2 in
    (t.0, t.1, t.2, Leave (subst P (sym q) p) s.1 t.3)

pub lifted : (A B : ℕ → ℕ → Type 0) (e : ℕ) (addr node left : ℕ → ℕ) → Numbers A B e addr node → IsPostOrder A e left → IsPostOrder B (addr e) (λ a. left (node a))
lifted A B e addr node left n s = record {
  edge = λ a b r d.
      let u = walk_back n r e Stop refl in
      let v = n.back u.0 b u.2 (subst (λ (z : ℕ). B z b) (sym u.1) d) in
      let at_u : node a ≡ u.0 = ap node (sym u.1) ∙ n.same u.0 u.2 in
      let at_v : node b ≡ v.0 = ap node (sym v.2) ∙ n.same v.0 (way-join u.2 (Leave tt v.1 Stop)) in
      elim (s.edge u.0 v.0 u.2 v.1) [
        | inl l ↦ inl (subst (λ (z : ℕ). left (node b) < left z) (sym at_u) (subst (λ (z : ℕ). left z < left u.0) (sym at_v) l))
        | inr m ↦ inr (record {
          met = λ w.
              let t = walk_back n w e Stop refl in
              let same : t.0 ≡ u.0 = sym (n.same t.0 t.2) ∙ ap node (t.1 ∙ sym u.1) ∙ n.same u.0 u.2 in
              let apart : Way A (λ k. k ≢ v.0) e u.0 = subst (λ (z : ℕ). Way A (λ k. k ≢ v.0) e z) same (way-weaken (λ k o q. o (ap addr q ∙ v.2)) t.3) in
              sym u.1 ∙ ap addr (m.met apart) ∙ v.2;
        })
      ];
}
