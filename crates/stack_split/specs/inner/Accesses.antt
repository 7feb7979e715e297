-- The stack accesses of a function, as addresses.
use Rattle.std.specs.Prelude.{◌≡◌, ◌↔◌, ℕ, ◌<◌, Bool, true, false, List, slice_index, slice_index_or}
use Rattle.std.specs.List.{Contains}
use Rattle.rv_words.specs.Bytes.{Bytes}
use Rattle.stack_offsets.specs.Offsets.{IsStackAccess}

-- the list has exactly those of these addresses at which a stack access of the function with entry e stands
abbrev pub AreStackAccesses : Bytes → ℕ → List ℕ → List ℕ → Type 0
AreStackAccesses code e addrs second = (a : ℕ) → Contains second a ↔ (Contains addrs a × IsStackAccess code e a)

-- the list has exactly the addresses of those of the first k nodes that were found to be one
abbrev pub AreFound : List ℕ → List Bool → ℕ → List ℕ → Type 0
AreFound addrs found k second = (a : ℕ) → Contains second a ↔ ((n : ℕ) × (n < k) × (slice_index_or found n false ≡ true) × (slice_index addrs n ≡ a))
