-- Ranges in order, in which a search for rising addresses goes on where the last one ended.
use Rattle.std.specs.Prelude.{ℕ, ◌+◌, ◌≤◌, List, [], ◌∷◌, length, take, All}
use Rattle.rv_words.specs.declared.range.Range.{Range}

-- each range begins at or above `least`, and the next one at or above its end
abbrev pub RiseFrom : ℕ → List Range → Type 0
RiseFrom least [] = Unit {0}
RiseFrom least (r ∷ rs) = (least ≤ r.at) × RiseFrom (r.at + length r.bytes) rs

-- the range ends at that address or before it
abbrev pub EndsBy : ℕ → Range → Type 0
EndsBy a r = r.at + length r.bytes ≤ a

-- no range before the place has a byte at the last address asked for or behind it
pub record Stands (ranges : List Range) (place last : ℕ) : Type 0 where
  pub behind : All (EndsBy last) (take place ranges)
