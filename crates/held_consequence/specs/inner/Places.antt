-- Where the pairs of a table stand.
use Rattle.std.specs.Prelude.{◌≡◌, ℕ, List, None, Some, slice_get}
use Rattle.std.specs.List.{Contains}
use Rattle.std.specs.declared.cmp.Ordering.{Ordering}
use Rattle.std.specs.Ordering.{nat_cmp, ordering_then}
use Rattle.std.specs.BTreeMap.{BTreeMap, get}
use Rattle.held_consequence.specs.inner.Table.{Entry, keys_of}

-- the order of pairs
abbrev pub pair_order : ℕ × ℕ → ℕ × ℕ → Ordering
pair_order k l = ordering_then (nat_cmp k.0 l.0) (nat_cmp k.1 l.1)

-- what is found for a pair is its place, and each pair is found
pub record ArePlaced (known : List Entry) (places : BTreeMap (ℕ × ℕ) ℕ) : Type 0 where
  pub found : (k : ℕ × ℕ) (i : ℕ) → get pair_order places k ≡ Some i → slice_get (keys_of known) i ≡ Some k
  pub each : (k : ℕ × ℕ) → get pair_order places k ≡ None → Contains (keys_of known) k → ⊥
