-- A bench behind lines of version 2: its terms begin with those of their table.
use Rattle.std.specs.Prelude.{◌≡◌, ℕ, ◌≤◌, false, length, take}
use Rattle.proof_text.specs.inner.OwnCode.{IsOwnCode}
use Rattle.short_text.specs.inner.ShortReaders.{KeptLines}
use Rattle.checker.specs.Bench.{BenchState, state_group, state_history, state_nodes}
use Rattle.checker.specs.Short.{AreWithin}

-- the table has so many terms, and there are no others before the first line of the proof
pub record StandsWith (b : BenchState) (terms : ℕ) (kept : KeptLines) : Type 0 where
  pub few : terms ≤ length (state_nodes b)
  pub table : kept.table ≡ take terms (state_nodes b)
  pub only : kept.begun ≡ false → kept.table ≡ state_nodes b
  pub within : AreWithin (state_history b)
  pub code : IsOwnCode (state_group b).code
