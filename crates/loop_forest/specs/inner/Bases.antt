-- What the table of bases tells.
use Rattle.std.specs.Prelude.{◌≡◌, ℕ, ◌<◌, ◌≤◌, ◌⊎◌, ◌↔◌, Bool, true, false, List, length, slice_index, slice_index_or}
use Rattle.flow_graph.specs.Graph.{GraphOf, HasEdge, preds_of}
use Rattle.loop_forest.specs.Loops.{IsPostOrder}
use Rattle.loop_forest.specs.Loops.{IsHead}
use Rattle.loop_forest.specs.Cuts.{StepsSinceCut}
use Rattle.loop_forest.specs.inner.DepthFirst.{mark_of, number_of}
use Rattle.std.specs.List.{Contains}
use Rattle.loop_forest.specs.declared.depth_first.Mark.{Mark}
use Rattle.loop_forest.specs.declared.heads.LoopWithExits.{LoopWithExits}

-- the entry, the heads and the nodes with two incoming edges are among the bases of the table
abbrev pub IsMarked : List Bool → ℕ → Type 0
IsMarked base n = slice_index_or base n false ≡ true

pub record HasBases (g : GraphOf) (marks : List Mark) (base : List Bool) : Type 0 where
  pub in_post_order : IsPostOrder (HasEdge g) g.entry (λ x. number_of (mark_of marks x))
  pub numbers : (x : ℕ) → number_of (mark_of marks x) ≤ length g.addrs
  pub entry : IsMarked base g.entry
  pub heads : (h : ℕ) → IsHead (HasEdge g) g.entry h → IsMarked base h
  pub as_long : length base ≡ length g.addrs

-- the head or an exit of a loop
abbrev pub IsEndOf : LoopWithExits → ℕ → Type 0
IsEndOf l n = (n ≡ l.body.head) ⊎ Contains l.exits n

-- the head or an exit of one of the loops
pub record IsEnd (loops : List LoopWithExits) (n : ℕ) : Type 0 where
  pub place : ℕ
  pub within : place < length loops
  pub ends : (l : LoopWithExits) → IsEndOf (slice_index_or loops place l) n

-- the entry, the head or an exit of one of the loops, or a node with two incoming edges
abbrev pub IsBaseOf : GraphOf → List LoopWithExits → ℕ → Type 0
IsBaseOf g loops n = (n ≡ g.entry) ⊎ (IsEnd loops n ⊎ (2 ≤ length (preds_of g.edges n)))

-- the table of the first n nodes
pub record AreBases (g : GraphOf) (loops : List LoopWithExits) (table : List Bool) (n : ℕ) : Type 0 where
  pub as_long : length table ≡ n
  pub each : (k : ℕ) → k < n → IsMarked table k ↔ IsBaseOf g loops k

-- the places of the first n nodes
pub record ArePlaces (g : GraphOf) (base : List Bool) (places : List ℕ) (n : ℕ) : Type 0 where
  pub as_long : length places ≡ n
  pub each : (k : ℕ) → k < n → StepsSinceCut (HasEdge g) (IsMarked base) k (slice_index places k)
