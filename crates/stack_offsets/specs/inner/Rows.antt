-- Rows of offsets: what a register has at all walks that were followed so far.
use Rattle.std.specs.Prelude.{◌≡◌, ℕ, ◌==◌, ◌<◌, ◌≢◌, Bool, true, false, if◌then◌else◌, List, Option, Some, None, length, count_by, slice_index_or, is_some}
use Rattle.std.specs.List.{sum_by}
use Rattle.stack_offsets.specs.declared.row.Row.{Row}
use Rattle.stack_offsets.specs.Offsets.{Offsets}

-- the offsets of a row
abbrev pub offsets_of : Row → Offsets
offsets_of row r = slice_index_or row.offsets r None

-- what both have, and have the same
abbrev pub both_same : Option ℕ → Option ℕ → Option ℕ
both_same (Some c) (Some d) = if c == d then Some c else None
both_same x y = None

-- the row of a node, which has none as long as no walk to it was followed
abbrev pub row_of : List (Option Row) → ℕ → Option Row
row_of rows n = slice_index_or rows n None

-- what a node may still lose
abbrev pub weight : Option Row → ℕ
weight None = 33
weight (Some row) = count_by is_some row.offsets

abbrev pub total : List (Option Row) → ℕ
total rows = sum_by weight rows

-- what a row becomes where a further walk leads to its node with these offsets
abbrev pub lowered : Option Row → Offsets → Offsets
lowered None o r = o r
lowered (Some row) o r = both_same (offsets_of row r) (o r)

-- the row of node v is lowered by these offsets; `fell` says whether it changed
pub record Lowers (rows : List (Option Row)) (v : ℕ) (from : Offsets) (rows' : List (Option Row)) (fell : Bool) : Type 0 where
  pub as_long : length rows' ≡ length rows
  pub others : (n : ℕ) → n ≢ v → row_of rows' n ≡ row_of rows n
  pub row : Row
  pub here : row_of rows' v ≡ Some row
  pub is : (r : ℕ) → offsets_of row r ≡ lowered (row_of rows v) from r
  pub same : fell ≡ false → rows' ≡ rows
  pub less : fell ≡ true → total rows' < total rows
