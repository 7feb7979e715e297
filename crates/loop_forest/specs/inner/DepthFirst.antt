-- The order in which a search in depth leaves the nodes.
use Rattle.std.specs.Prelude.{◌≡◌, ℕ, ◌+◌, ◌<◌, ◌≤◌, ◌⊎◌, Bool, true, false, List, length, slice_index, slice_index_or}
use Rattle.flow_graph.specs.Graph.{GraphOf, HasEdge}
use Rattle.flow_graph.specs.Walks.{Reaches}
use Rattle.loop_forest.specs.Loops.{Dominates, IsPostOrder}
use Rattle.loop_forest.specs.Cycles.{ShowsTwoEntries}
use Rattle.loop_forest.specs.declared.depth_first.Mark.{Mark}
use Rattle.loop_forest.specs.declared.depth_first.Mark.TheVariants.{New, OnPath, Done}
use Rattle.loop_forest.specs.declared.depth_first.DepthFirst.{DepthFirst}
use Rattle.loop_forest.specs.declared.depth_first.DepthFirst.TheVariants.{PostOrder, Irreducible}

abbrev pub mark_of : List Mark → ℕ → Mark
mark_of marks x = slice_index_or marks x New

abbrev pub is_new : Mark → Bool
is_new New = true
is_new (OnPath i) = false
is_new (Done n) = false

abbrev pub number_of : Mark → ℕ
number_of New = 0
number_of (OnPath i) = 0
number_of (Done n) = n

-- an edge from u to v is in_post_order for u with the number n: v was left earlier, or every walk to u meets it
abbrev pub IsDone : GraphOf → (e : ℕ) → List Mark → (n u v : ℕ) → Type 0
IsDone g e marks n u v = ((m : ℕ) × (mark_of marks v ≡ Done m) × (m < n)) ⊎ (Dominates (HasEdge g) e v u × (is_new (mark_of marks v) ≡ false))

-- what the search keeps
pub record Searching (g : GraphOf) (e : ℕ) (marks : List Mark) (path : List ℕ) (count : ℕ) : Type 0 where
  pub opened : (j : ℕ) → j < length path → mark_of marks (slice_index path j) ≡ OnPath j
  pub on_path : (x j : ℕ) → mark_of marks x ≡ OnPath j → (j < length path) × (slice_index path j ≡ x)
  pub linked : (k : ℕ) → k + 1 < length path → HasEdge g (slice_index path k) (slice_index path (k + 1))
  pub starts : 0 < length path → slice_index path 0 ≡ e
  pub seen : is_new (mark_of marks e) ≡ false
  pub left : (u n : ℕ) → mark_of marks u ≡ Done n → (n < count) × ((v : ℕ) → HasEdge g u v → IsDone g e marks n u v)
  pub different : (u v n : ℕ) → mark_of marks u ≡ Done n → mark_of marks v ≡ Done n → u ≡ v
  pub as_long : length marks ≡ length g.addrs

-- the marks of all nodes at the end, where there are no two entries
pub record IsNumbered (g : GraphOf) (e : ℕ) (marks : List Mark) : Type 0 where
  pub in_post_order : IsPostOrder (HasEdge g) e (λ x. number_of (mark_of marks x))
  pub different : (u v : ℕ) → Reaches (HasEdge g) e u → Reaches (HasEdge g) e v → number_of (mark_of marks u) ≡ number_of (mark_of marks v) → u ≡ v
  pub few : (x : ℕ) → number_of (mark_of marks x) ≤ length g.addrs
  pub as_long : length marks ≡ length g.addrs

abbrev pub IsDepthFirst : GraphOf → ℕ → DepthFirst → Type 0
IsDepthFirst g e (PostOrder marks) = IsNumbered g e marks.items
IsDepthFirst g e (Irreducible c f s) = ShowsTwoEntries (HasEdge g) e c.items f.items s.items
