-- What a search backward finds.
use Rattle.std.specs.Prelude.{◌≡◌, ℕ, ◌<◌, ◌⊎◌, List, [], ◌∷◌, ◌++◌, length, slice_index}
use Rattle.std.specs.List.{Contains}
use Rattle.flow_graph.specs.Graph.{GraphOf, HasEdge}
use Rattle.loop_forest.specs.Loops.{ReachesApart}

-- x reaches one of the targets without meeting h
pub record ReachesOne (g : GraphOf) (targets : List ℕ) (h x : ℕ) : Type 0 where
  pub target : ℕ
  pub among : Contains targets target
  pub reaches : ReachesApart (HasEdge g) h x target

-- each node is a target, or has an edge to the node at an earlier place
abbrev pub LeadsOn : GraphOf → (targets : List ℕ) → (nodes next_hop : List ℕ) → Type 0
LeadsOn g targets nodes next_hop = (k : ℕ) → k < length nodes → Contains targets (slice_index nodes k) ⊎ ((slice_index next_hop k < k) × HasEdge g (slice_index nodes k) (slice_index nodes (slice_index next_hop k)))

-- nodes are exactly those that reach one of the targets without meeting h; each is a target, or has an edge to the node at an earlier place
pub record FindsSources (g : GraphOf) (targets : List ℕ) (h : ℕ) (nodes next_hop : List ℕ) : Type 0 where
  pub sound : (x : ℕ) → Contains nodes x → ReachesOne g targets h x
  pub complete : (x : ℕ) → ReachesOne g targets h x → Contains nodes x
  pub within : (x : ℕ) → Contains nodes x → x < length g.addrs
  pub as_long : length next_hop ≡ length nodes
  pub onward : LeadsOn g targets nodes next_hop

-- a node that is there already changes nothing, and a new one goes last
pub record Notes (nodes next_hop : List ℕ) (x place : ℕ) (nodes' next_hop' : List ℕ) : Type 0 where
  pub noted : (Contains nodes x × (nodes' ≡ nodes) × (next_hop' ≡ next_hop)) ⊎ ((Contains nodes x → ⊥) × (nodes' ≡ nodes ++ x ∷ []) × (next_hop' ≡ next_hop ++ place ∷ []))
