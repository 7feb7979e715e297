use Rattle.std.proofs.Common.{ℕ, ◌+◌, ◌-◌, ◌<◌, ◌≤◌, List, length, get_or}
use Rattle.rv_words.specs.declared.pieces.Piece.{Piece}
use Rattle.rv_words.proofs.pieces.count_begun.Given as goal

-- the pieces before `low` begin early enough, those from `high` on don't
pub record IsSplit (pieces : List Piece) (a n low high : ℕ) : Type 0 where
  pub ordered : low ≤ high
  pub within : high ≤ length pieces
  pub begun : (d : Piece) → 0 < low → (get_or pieces (low - 1) d).at ≤ a + n
  pub later : (d : Piece) → high < length pieces → a + n < (get_or pieces high d).at

abbrev pub invariant-loop-low : goal.invariant-loop-low
invariant-loop-low l = IsSplit l.pieces l.a l.n l.low l.high

abbrev pub decreases-loop-low : goal.decreases-loop-low
decreases-loop-low l = l.high - l.low
