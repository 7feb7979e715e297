-- Bytes at addresses as a list of ranges.
use Rattle.std.specs.Prelude.{ℕ, ◌+◌, ◌^◌, ◌<◌, ◌≤◌, None, List, [], ◌∷◌, length}
use Rattle.rv_words.specs.Bytes.{Bytes, bytes_from, over}
use Rattle.rv_words.specs.declared.range.Range.{Range}

-- each range begins at or above `least`, isn't empty and ends at most at 2 ^ 64, and the next begins above its end
abbrev pub AreRangesFrom : ℕ → List Range → Type 0
AreRangesFrom least [] = Unit {0}
AreRangesFrom least (r ∷ rs) =
    (least ≤ r.at) × (0 < length r.bytes) × (r.at + length r.bytes ≤ 2 ^ 64) × AreRangesFrom (r.at + length r.bytes + 1) rs

-- ranges that aren't empty, rise, neither overlap nor touch, and end at most at 2 ^ 64
abbrev pub AreRanges : List Range → Type 0
AreRanges rs = AreRangesFrom 0 rs

-- the bytes of ranges; where two of them have an address, that of the first
abbrev pub range_bytes : List Range → Bytes
range_bytes [] = λ a. None
range_bytes (r ∷ rs) = over (bytes_from r.at r.bytes) (range_bytes rs)
