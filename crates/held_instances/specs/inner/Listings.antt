-- What is listed for variables, by an index.
use Rattle.std.specs.Prelude.{◌≡◌, ℕ, List}
use Rattle.std.specs.BTreeMap.{BTreeMap, get}
use Rattle.std.specs.Ordering.{nat_cmp}
use Rattle.word_terms.specs.Substitution.{listed}

-- the index has for each variable what is listed for it
pub record IsIndexOf (l : List (ℕ × ℕ)) (index : BTreeMap ℕ ℕ) : Type 0 where
  pub each : (i : ℕ) → get nat_cmp index i ≡ listed l i
