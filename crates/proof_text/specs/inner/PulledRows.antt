-- Rows that are pulled from a file, line by line.
use Rattle.std.specs.Prelude.{◌≡◌, ◌≢◌, ℕ, ◌+◌, ◌-◌, ◌<◌, ◌≤◌, ◌⊎◌, Bool, true, false, List, [], ◌∷◌, ◌++◌, length, Option, Some, None, IfSome, ◌==◌, if◌then◌else◌}
use Rattle.mc_shelf.specs.Lines.{LinesState, bytes_left, AllGiven}
use Rattle.mc_shelf.specs.Shelf.{Contents}
use Rattle.mc_shelf.specs.inner.OnlyReads.{OnlyReads}
use Rattle.mc_shelf.specs.declared.lines.LineFault.TheVariants as line
use Rattle.mc_text.specs.Fault.{newlines}
use Rattle.mc_text.specs.Printing.{BeginsWith}
use Rattle.group_text.specs.inner.Cut.{AreWholeLines}
use Rattle.group_text.specs.inner.Rows.{RowPosition, IsRow}
use Rattle.group_text.specs.declared.read_error.RowError.{RowError}
use Rattle.group_text.specs.declared.read_error.RowError.TheVariants as row

pub record PulledState : Type 0 where
  -- the lines from which rows are pulled
  pub lines : LinesState
  -- the row that is held, or nothing
  pub held : List ℕ
  -- the last bytes, where they were pulled and are no row
  pub tail : List ℕ
  -- how many rows were passed
  pub taken : ℕ

-- how many bytes are left at most
abbrev pub rows_left : PulledState → ℕ
rows_left s = (s.lines.size - s.lines.given) + length s.held

-- whether there are none
abbrev pub EndsSo : Bool → List ℕ → Type 0
EndsSo true bytes = bytes ≡ []
EndsSo false bytes = bytes ≢ []

-- bytes that are no row: the last ones, without a newline
pub record IsTail (bytes : List ℕ) : Type 0 where
  pub some : 0 < length bytes
  pub none : newlines bytes ≡ 0

abbrev pub held_bytes : Option (List ℕ) → List ℕ
held_bytes None = []
held_bytes (Some bytes) = bytes

-- what stands behind the row that is held
abbrev pub behind_held : List ℕ → List ℕ → List ℕ
behind_held [] left = left
behind_held (b ∷ tail) left = b ∷ tail

-- the bytes of the file that were not passed
abbrev pub not_passed : PulledState → List ℕ → List ℕ
not_passed s file = s.held ++ behind_held s.tail (bytes_left s.lines file)

-- the place at which the rows stand, where it is told what the file holds: its whole rows are those of the bytes that were not passed
pub record IsToldPlace (s : PulledState) (file : List ℕ) (p : RowPosition) : Type 0 where
  pub tail : List ℕ
  pub is : not_passed s file ≡ p.rest ++ tail
  pub whole : AreWholeLines p.rest
  pub none : newlines tail ≡ 0

-- a place at which the rows may stand, where it isn't told: one that begins with the row that is held
pub record IsPossiblePlace (s : PulledState) (p : RowPosition) : Type 0 where
  pub held : s.held ≢ [] → BeginsWith s.held p.rest
  pub ended : s.held ≡ [] → (s.tail ≢ []) ⊎ AllGiven s.lines → p.rest ≡ []

abbrev pub IsPlaceInName : Option (List ℕ) → PulledState → RowPosition → Type 0
IsPlaceInName None s p = IsPossiblePlace s p
IsPlaceInName (Some file) s p = IsToldPlace s file p

abbrev pub IsPlaceIn : Option Contents → PulledState → RowPosition → Type 0
IsPlaceIn None s p = IsPossiblePlace s p
IsPlaceIn (Some files) s p = IsPlaceInName (files s.lines.name) s p

-- the places at which the rows may stand; after a refusal there is none
pub record IsPulledPlace (told : Option Contents) (s : PulledState) (p : RowPosition) : Type 0 where
  pub going : s.lines.refused ≡ None
  pub taken : p.taken ≡ s.taken
  pub in_file : IsPlaceIn told s p

-- the bytes behind the last newline
abbrev pub after_newlines : List ℕ → List ℕ
after_newlines [] = []
after_newlines (b ∷ bytes) = if newlines (b ∷ bytes) == 0 then b ∷ bytes else after_newlines bytes

-- where it is told what the name holds
abbrev pub IfFile : Option Contents → List ℕ → (List ℕ → Type 0) → Type 0
IfFile told name P = IfSome told (λ files. IfSome (files name) P)

-- the outside failed, and it hadn't before
abbrev pub FailsFirst : Option RowError → LinesState → Type 0
FailsFirst lost l = (lost ≡ Some row.Fault) × (l.refused ≢ Some line.Fault)

-- what calls do to rows and to the shelf from which they are pulled, by what the last of them lost a row, if it did
pub record Draws {Store : Type 0} (contents : Store → Option Contents) (read_faults write_faults : Store → ℕ) (IsSure : Store → Type 0)
    (lost : Option RowError) (old : PulledState) (before : Store) (new : PulledState) (after : Store) : Type 0 where
  pub shelf : OnlyReads contents read_faults write_faults IsSure (FailsFirst lost old.lines) old.lines.name before after
  pub name : new.lines.name ≡ old.lines.name
  pub size : new.lines.size ≡ old.lines.size
  pub taken : old.taken ≤ new.taken
  pub going : lost ≡ None → new.lines.refused ≡ old.lines.refused
  pub last : lost ≡ None → IfFile (contents before) old.lines.name (λ file. after_newlines (not_passed new file) ≡ after_newlines (not_passed old file))

-- a line was kept: as the row that is held, or as the last bytes
abbrev pub KeepsLine : Bool → List ℕ → PulledState → PulledState → Type 0
KeepsLine true line old new = IsRow line × (new ≡ record old { held = line })
KeepsLine false line old new = IsTail line × (new ≡ record old { tail = line })
