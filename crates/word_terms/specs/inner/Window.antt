-- What stands at addresses in a row.
use Rattle.std.specs.Prelude.{◌≡◌, ℕ, ◌+◌, ◌%◌, ◌^◌, ◌<◌, ◌≤◌, List, Option, slice_index_or}
use Rattle.rv_words.specs.Bytes.{Bytes, store}

-- the first items of the list are what stands at that many addresses from a on
pub record StandFrom (m : Bytes) (a count : ℕ) (items : List (Option ℕ)) : Type 0 where
  pub at : (k : ℕ) (d : Option ℕ) → k < count → slice_index_or items k d ≡ m ((a + k) % 2 ^ 64)

-- .. the first `done` of them after a store, the others up to `count` before it
pub record StandStored (m : Bytes) (n at v a done count : ℕ) (items : List (Option ℕ)) : Type 0 where
  pub stored : StandFrom (store n m at v) a done items
  pub rest : (k : ℕ) (d : Option ℕ) → done ≤ k → k < count → slice_index_or items k d ≡ m ((a + k) % 2 ^ 64)
