-- What a forest keeps.
use Rattle.std.specs.Prelude.{◌≡◌, ◌≢◌, ℕ, ◌<◌, ◌≤◌, Option, Some, None, List, ◌∷◌, length, map, slice_index, slice_index_or}
use Rattle.std.specs.List.{Contains}
use Rattle.flow_graph.specs.Graph.{GraphOf, HasEdge}
use Rattle.loop_forest.specs.Loops.{InLoop}
use Rattle.loop_forest.specs.Forest.{ForestOf}
use Rattle.loop_forest.specs.inner.Found.{heads}
use Rattle.loop_forest.specs.inner.DepthFirst.{number_of}
use Rattle.loop_forest.specs.declared.heads.LoopWithExits.{LoopWithExits}
use Rattle.loop_forest.specs.declared.depth_first.Mark.{Mark}

-- the forest of these loops, and for each node a region, a mark and a place
abbrev pub forest_of : List LoopWithExits → List (Option ℕ) → List Mark → List ℕ → ForestOf
forest_of loops regions marks places = record {
  heads = heads loops;
  insides = map (λ l. l.body.head ∷ l.body.nodes) loops;
  exits = map (λ l. l.exits) loops;
  regions = regions;
  numbers = map number_of marks;
  places = places;
}

pub record IsKept (loops : List LoopWithExits) (regions : List (Option ℕ)) (marks : List Mark) (places : List ℕ) : Type 0 where
  pub few : length loops ≤ 1024
  pub heads_below : (h : ℕ) → Contains (heads loops) h → h < length places
  pub regions_as_long : length regions ≡ length places
  pub marks_as_long : length marks ≡ length places

-- loop l, of those with these heads, has n beyond its head, and lies in the loop at another place, if there is one
abbrev pub IsCloser : GraphOf → List ℕ → Option ℕ → (l n : ℕ) → Type 0
IsCloser g hs None l n = (slice_index hs l ≢ n) × InLoop (HasEdge g) g.entry (slice_index hs l) n
IsCloser g hs (Some b) l n = (slice_index hs l ≢ n) × InLoop (HasEdge g) g.entry (slice_index hs l) n × InLoop (HasEdge g) g.entry (slice_index hs b) (slice_index hs l)

-- the smallest of the first i loops that has n beyond its head
abbrev pub IsClosest : GraphOf → List ℕ → (i n : ℕ) → Option ℕ → Type 0
IsClosest g hs i n None = (k : ℕ) → k < i → slice_index hs k ≢ n → InLoop (HasEdge g) g.entry (slice_index hs k) n → ⊥
IsClosest g hs i n (Some b) = (b < i) × (slice_index hs b ≢ n) × InLoop (HasEdge g) g.entry (slice_index hs b) n
    × ((k : ℕ) → k < i → slice_index hs k ≢ n → InLoop (HasEdge g) g.entry (slice_index hs k) n → InLoop (HasEdge g) g.entry (slice_index hs k) (slice_index hs b))

-- the regions of the first n nodes
pub record AreRegions (g : GraphOf) (hs : List ℕ) (regions : List (Option ℕ)) (n : ℕ) : Type 0 where
  pub as_long : length regions ≡ n
  pub each : (k : ℕ) → k < n → IsClosest g hs (length hs) k (slice_index_or regions k None)
