-- What the search for reached addresses keeps.
use Rattle.std.specs.Prelude.{◌≡◌, ℕ, ◌<◌, ◌⊎◌, List, [], ◌∷◌, length, slice_index}
use Rattle.std.specs.List.{Contains}
use Rattle.flow_graph.specs.declared.flow.Targets.{Targets}
use Rattle.flow_graph.specs.declared.flow.Targets.TheVariants.{Nowhere, One, Two}

-- where an instruction leads, as the code has it
abbrev pub targets_of : Targets → List ℕ
targets_of Nowhere = []
targets_of (One a) = a ∷ []
targets_of (Two a b) = a ∷ b ∷ []

-- the nodes from N on: all stay in their places, each of ts is there, and nothing else is new
pub record GrowsBy (N ts N' : List ℕ) : Type 0 where
  pub kept : (k : ℕ) → k < length N → (k < length N') × (slice_index N' k ≡ slice_index N k)
  pub added : (t : ℕ) → Contains ts t → Contains N' t
  pub only : (x : ℕ) → Contains N' x → Contains N x ⊎ Contains ts x
