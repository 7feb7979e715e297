-- Walks and cycles as lists of nodes, and cycles with two entries.
use Rattle.std.specs.Prelude.{◌≡◌, ℕ, ◌+◌, ◌-◌, ◌<◌, List, ◌≢◌, length, slice_index}
use Rattle.std.specs.List.{Contains}

-- the last node of a list that isn't empty
abbrev pub last_of : List ℕ → ℕ
last_of w = slice_index w (length w - 1)

-- each node has an edge to the next
abbrev pub IsLinked : (E : ℕ → ℕ → Type 0) → List ℕ → Type 0
IsLinked E w = (k : ℕ) → k + 1 < length w → E (slice_index w k) (slice_index w (k + 1))

-- one or more different nodes, each with an edge to the next and the last to the first
pub record IsCycle (E : ℕ → ℕ → Type 0) (c : List ℕ) : Type 0 where
  pub some : 0 < length c
  pub linked : IsLinked E c
  pub closed : E (last_of c) (slice_index c 0)
  pub different : (j k : ℕ) → j < k → k < length c → slice_index c j ≢ slice_index c k

-- a walk from a that meets the list c at its last node alone
pub record Enters (E : ℕ → ℕ → Type 0) (c : List ℕ) (a : ℕ) (w : List ℕ) : Type 0 where
  pub some : 0 < length w
  pub starts : slice_index w 0 ≡ a
  pub linked : IsLinked E w
  pub apart : (k : ℕ) → k + 1 < length w → Contains c (slice_index w k) → ⊥
  pub ends : Contains c (last_of w)

-- a cycle with two different nodes, and for each a walk from a that meets the cycle there alone
pub record ShowsTwoEntries (E : ℕ → ℕ → Type 0) (a : ℕ) (cycle first second : List ℕ) : Type 0 where
  pub cycle_is : IsCycle E cycle
  pub enters_first : Enters E cycle a first
  pub enters_second : Enters E cycle a second
  pub differ : last_of first ≢ last_of second

pub record TwoEntries (E : ℕ → ℕ → Type 0) (a : ℕ) : Type 0 where
  pub cycle : List ℕ
  pub first : List ℕ
  pub second : List ℕ
  pub shows : ShowsTwoEntries E a cycle first second
