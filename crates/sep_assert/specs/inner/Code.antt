-- How ranges are compared and joined.
use Rattle.std.specs.Prelude.{◌≡◌, ℕ, ◌+◌, ◌^◌, ◌<◌, ◌≤◌, List, length, slice_index_or, All}
use Rattle.rv_words.specs.Bytes.{Bytes, bytes_from, over}
use Rattle.rv_words.specs.Ranges.{AreRanges, range_bytes}
use Rattle.rv_words.specs.declared.range.Range.{Range}

-- at each address of the range x has what y has
abbrev pub AreSameAt : Bytes → Bytes → Range → Type 0
AreSameAt x y r = (k : ℕ) → k < length r.bytes → x (r.at + k) ≡ y (r.at + k)

-- ---- how ranges are joined

-- a range that has bytes, and ends at most at 2 ^ 64
abbrev pub IsRange : Range → Type 0
IsRange r = (0 < length r.bytes) × (r.at + length r.bytes ≤ 2 ^ 64)

-- the range begins at that address or before it
abbrev pub BeginsBy : ℕ → Range → Type 0
BeginsBy a r = r.at ≤ a

-- there is a range of xs at i, and it begins no later than that of ys at j, if there is one
pub record BeginsFirst (xs : List Range) (i : ℕ) (ys : List Range) (j : ℕ) : Type 0 where
  pub within : i < length xs
  pub first : (x y : Range) → j < length ys → (slice_index_or xs i x).at ≤ (slice_index_or ys j y).at

-- the new ranges have the bytes of the old ones and, where these have none, of r, and none of them begins behind r
pub record Joins (old : List Range) (r : Range) (new : List Range) : Type 0 where
  pub ranges : AreRanges new
  pub order : All (BeginsBy r.at) new
  pub bytes : range_bytes new ≡ over (range_bytes old) (bytes_from r.at r.bytes)
