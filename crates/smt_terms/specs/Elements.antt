-- The elements of arrays that are given as bytes.
use Rattle.std.specs.Prelude.{ℕ, unwrap_or}
use Rattle.std.specs.Ordering.{nat_cmp}
use Rattle.std.specs.FinMap.{FinMap, get}

-- the element at an index: the byte there, or 0 where there is none
abbrev pub element : FinMap nat_cmp ℕ → ℕ → ℕ
element m i = unwrap_or (get m i) 0
