-- What walks along a graph rest on: laws of a forest in terms of what it holds alone.
use Rattle.std.specs.Prelude.{◌≡◌, ◌≢◌, ℕ, ◌+◌, ◌==◌, ◌<◌, ◌⊎◌, if◌then◌else◌, Option, Some, None, option_map, List, [], ◌∷◌, length}
use Rattle.std.specs.List.{Contains}
use Rattle.std.specs.Option.{option_or}
use Rattle.flow_graph.specs.Graph.{GraphOf, HasEdge, succs_of}
use Rattle.loop_forest.specs.Cycles.{IsCycle}
use Rattle.loop_forest.specs.Forest.{ForestOf, exits_of, head_of, number_of, place_of, region_of}

-- the place of a number among these, if it is there
abbrev pub index_in : List ℕ → ℕ → Option ℕ
index_in [] n = None
index_in (x ∷ xs) n = if x == n then Some 0 else option_map (λ k. k + 1) (index_in xs n)

-- the loop whose head a node is
abbrev pub loop_of : ForestOf → ℕ → Option ℕ
loop_of f n = index_in f.heads n

-- the smallest loop that has a node, where a head counts as a node of its own loop
abbrev pub inner_of : ForestOf → ℕ → Option ℕ
inner_of f n = option_or (loop_of f n) (region_of f n)

-- where a walk in a region may come to: the head of the region's loop, one of its exits, or a node of the region
abbrev pub IsPlacedIn : ForestOf → Option ℕ → ℕ → Type 0
IsPlacedIn f None n = region_of f n ≡ None
IsPlacedIn f (Some l) n = (n ≡ head_of f l) ⊎ (Contains (exits_of f l) n ⊎ (region_of f n ≡ Some l))

-- An edge to a node that is no cut stays in the smallest loop, comes one instruction further from the last cut, and falls; any other
-- leads to where its region may come to. Where a walk goes on in a region, or behind a loop in the region around it, numbers fall too, so
-- parts of a region that are called weigh less than those that call them. A node without successors lies in no loop. The entry, heads
-- and exits are cuts; every cycle has one.
pub record IsWalkable (g : GraphOf) (f : ForestOf) : Type 0 where
  pub near : (n : ℕ) → n < length g.addrs → place_of f n < 32
  pub stays : (n m : ℕ) → HasEdge g n m → place_of f m ≢ 0 → inner_of f m ≡ inner_of f n
  pub next : (n m : ℕ) → HasEdge g n m → place_of f m ≢ 0 → place_of f m ≡ place_of f n + 1
  pub falls : (n m : ℕ) → HasEdge g n m → place_of f m ≢ 0 → number_of f m < number_of f n
  pub placed : (n m : ℕ) → HasEdge g n m → IsPlacedIn f (inner_of f n) m
  pub falls_on : (n m : ℕ) → HasEdge g n m → region_of f m ≡ inner_of f n → number_of f m < number_of f n
  pub falls_behind : (l m : ℕ) → l < length f.heads → Contains (exits_of f l) m → region_of f m ≡ region_of f (head_of f l) → number_of f m < number_of f (head_of f l)
  pub returned : (n : ℕ) → n < length g.addrs → succs_of g.edges n ≡ [] → inner_of f n ≡ None
  pub entry : (place_of f g.entry ≡ 0) × (region_of f g.entry ≡ None)
  pub own : (n l : ℕ) → loop_of f n ≡ Some l → (l < length f.heads) × (head_of f l ≡ n)
  pub head : (l : ℕ) → l < length f.heads → (head_of f l < length g.addrs) × (place_of f (head_of f l) ≡ 0) × (inner_of f (head_of f l) ≡ Some l)
  pub exit : (l m : ℕ) → l < length f.heads → Contains (exits_of f l) m → (m < length g.addrs) × (place_of f m ≡ 0) × IsPlacedIn f (region_of f (head_of f l)) m
  pub cycles : (c : List ℕ) → IsCycle (HasEdge g) c → (h : ℕ) × Contains c h × (place_of f h ≡ 0)
