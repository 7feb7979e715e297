-- Loops of a graph, given by its edges and its entry. A loop is named by its head.
use Rattle.std.specs.Prelude.{◌≡◌, ℕ, ◌<◌, ◌≢◌, ◌⊎◌}
use Rattle.flow_graph.specs.Walks.{Way, Reaches}

-- every walk from the entry e to u meets h
pub record Dominates (E : ℕ → ℕ → Type 0) (e h u : ℕ) : Type 0 where
  pub met : Way E (λ x. x ≢ h) e u → u ≡ h

-- an edge to a node that every walk from the entry to the edge's source meets
pub record IsBackEdge (E : ℕ → ℕ → Type 0) (e u h : ℕ) : Type 0 where
  pub edge : E u h
  pub met : Dominates E e h u

pub record IsHead (E : ℕ → ℕ → Type 0) (e h : ℕ) : Type 0 where
  pub source : ℕ
  pub back : IsBackEdge E e source h

-- h is met nowhere on a walk from x to u
pub record ReachesApart (E : ℕ → ℕ → Type 0) (h x u : ℕ) : Type 0 where
  pub way : Way E (λ n. n ≢ h) x u
  pub last : u ≢ h

-- the loop of h: h, and each node from which a source of a back edge to h is reached without meeting h
pub data InLoop (E : ℕ → ℕ → Type 0) (e h : ℕ) : ℕ → Type 0 where
  AtHead : InLoop E e h h
  Inside : {x u : ℕ} → IsBackEdge E e u h → ReachesApart E h x u → InLoop E e h x

-- v is a target outside the loop of h of an edge from inside it
pub record IsExit (E : ℕ → ℕ → Type 0) (e h v : ℕ) : Type 0 where
  pub from : ℕ
  pub inside : InLoop E e h from
  pub edge : E from v
  pub outside : InLoop E e h v → ⊥

-- the numbers are those of a post-order: each edge out of a reached node goes down, or to a node that dominates
pub record IsPostOrder (E : ℕ → ℕ → Type 0) (e : ℕ) (left : ℕ → ℕ) : Type 0 where
  pub edge : (u v : ℕ) → Reaches E e u → E u v → (left v < left u) ⊎ Dominates E e v u
