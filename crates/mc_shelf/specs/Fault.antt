-- Counts of faults, and what is said where something is told.
use Rattle.std.specs.Prelude.{◌≡◌, ℕ, ◌<◌, ◌^◌, ◌+◌, ◌-◌, min, ◌⊎◌, Option, Some, None}

-- a count of faults that rose, or stands at its last value
abbrev pub Rose : ℕ → ℕ → Type 0
Rose before after = (before < after) ⊎ (after ≡ 2 ^ 64 - 1)

-- a count of faults or of calls after one more; it stands still at its last value
abbrev pub one_more : ℕ → ℕ
one_more n = min (n + 1) (2 ^ 64 - 1)

-- how many reads and how many writes of a shelf failed
pub record FaultCounts : Type 0 where
  pub read_faults : ℕ
  pub write_faults : ℕ

-- of two meanings that are both told; it stays told, or it stays untold
abbrev pub WhereTold : {T : Type 0} → Option T → Option T → (T → T → Type 0) → Type 0
WhereTold None None R = Unit {0}
WhereTold (Some old) (Some new) R = R old new
WhereTold None (Some new) R = ⊥
WhereTold (Some old) None R = ⊥
