-- Walks in a graph, given by its edges.
use Rattle.std.specs.Prelude.{ℕ}

-- a walk from a to b along edges of E; each node that it leaves meets P
pub data Way (E : ℕ → ℕ → Type 0) (P : ℕ → Type 0) : ℕ → ℕ → Type 0 where
  Stop : {a : ℕ} → Way E P a a
  Leave : {a c b : ℕ} → P a → E a c → Way E P c b → Way E P a b

-- every node
abbrev pub AnyNode : ℕ → Type 0
AnyNode x = Unit {0}

-- there is a walk from a to b
abbrev pub Reaches : (E : ℕ → ℕ → Type 0) → ℕ → ℕ → Type 0
Reaches E a b = Way E AnyNode a b
