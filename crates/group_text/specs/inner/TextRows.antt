-- What contracts see of rows in memory.
use Rattle.std.specs.Prelude.{◌≡◌, ℕ, ◌⊎◌, List, [], ◌∷◌}
use Rattle.mc_text.specs.Printing.{BeginsWith}
use Rattle.group_text.specs.inner.Rows.{IsRow}

pub record TextRowPosition : Type 0 where
  pub rest : List ℕ
  pub held : List ℕ
  pub taken : ℕ

-- the first row
pub record IsFirstRow (row bytes : List ℕ) : Type 0 where
  pub is : IsRow row
  pub first : BeginsWith row bytes

-- the first row, or nothing
abbrev pub IsHeld : List ℕ → List ℕ → Type 0
IsHeld held rest = (held ≡ []) ⊎ IsFirstRow held rest

-- the first row, or nothing where there is none
abbrev pub FirstRow : List ℕ → List ℕ → Type 0
FirstRow [] bytes = bytes ≡ []
FirstRow (b ∷ row) bytes = IsFirstRow (b ∷ row) bytes
