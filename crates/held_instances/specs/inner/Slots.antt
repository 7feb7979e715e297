-- The slots of a table of images: one for each number, of the turn in which it was written last.
use Rattle.std.specs.Prelude.{◌≡◌, ◌==◌, ◌++◌, ℕ, suc, ◌<◌, ◌≤◌, All, List, [], ◌∷◌, if◌then◌else◌}
use Rattle.held_instances.specs.declared.image_table.Slot.{Slot}
use Rattle.held_instances.specs.Image.{Known}

-- what the slots of that turn keep, where the first slot is that of the number n
abbrev pub entries_from : ℕ → ℕ → List Slot → Known
entries_from turn n [] = []
entries_from turn n (s ∷ slots) = if s.turn == turn then (n, s.image) ∷ entries_from turn (suc n) slots else entries_from turn (suc n) slots

-- turns count from 1, and no slot is of a later one; a slot that was never written is of turn 0
pub record AreSlots (turn : ℕ) (slots : List Slot) : Type 0 where
  pub begun : 0 < turn
  pub each : All (λ s. s.turn ≤ turn) slots

-- only slots that were never written came behind
pub record IsGrown (old new : List Slot) : Type 0 where
  pub more : List Slot
  pub is : new ≡ old ++ more
  pub empty : All (λ s. s.turn ≡ 0) more
