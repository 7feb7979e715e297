-- Nodes with a table of their places.
use Rattle.std.specs.Prelude.{◌≡◌, ℕ, ◌<◌, List, Option, None, Some, length, slice_index, slice_index_or}

-- the place of a node in a table
abbrev pub place_in : List (Option ℕ) → ℕ → Option ℕ
place_in places x = slice_index_or places x None

-- the table has exactly the places of the nodes
pub record HasPlaces (nodes : List ℕ) (places : List (Option ℕ)) : Type 0 where
  pub found : (x k : ℕ) → place_in places x ≡ Some k → (k < length nodes) × (slice_index nodes k ≡ x)
  pub placed : (k : ℕ) → k < length nodes → place_in places (slice_index nodes k) ≡ Some k
