-- A file that is given line by line.
use Rattle.std.specs.Prelude.{◌≡◌, ℕ, ◌+◌, ◌-◌, Bool, true, false, ◌⊎◌, List, [], ◌++◌, length, take, drop, Option, Some, None}
use Rattle.std.specs.Io.BufRead.{take_through}
use Rattle.mc_shelf.specs.declared.lines.LineFault.{LineFault}

-- how far a file was given
pub record LinesState : Type 0 where
  -- the name that holds it
  pub name : List ℕ
  -- how many bytes are given at most
  pub size : ℕ
  -- how many bytes were given
  pub given : ℕ
  -- the bytes that the shelf gave and that were not given yet
  pub waiting : List ℕ
  -- the shelf gave nothing, as at the end of a file
  pub ended : Bool
  -- the refusal that was answered, and that each further call answers
  pub refused : Option LineFault

-- the bytes up to and with the first newline, or all of them where there is none
abbrev pub up_to_newline : List ℕ → List ℕ
up_to_newline bytes = take_through 10 bytes

-- a line that ends in itself, whatever stands behind it
pub record IsEnded (line : List ℕ) : Type 0 where
  pub ends : (more : List ℕ) → up_to_newline (line ++ more) ≡ line

-- the bytes of a file from a place on, up to the size; none once the file ended
abbrev pub unread : ℕ → ℕ → Bool → List ℕ → List ℕ
unread size place false file = take (size - place) (drop place file)
unread size place true file = []

-- the bytes that are still to be given of the file that the name holds
abbrev pub bytes_left : LinesState → List ℕ → List ℕ
bytes_left s file = s.waiting ++ unread s.size (s.given + length s.waiting) s.ended file

-- as many bytes as the size were given, or all that the shelf gave before it gave nothing
abbrev pub AllGiven : LinesState → Type 0
AllGiven s = (s.given ≡ s.size) ⊎ ((s.ended ≡ true) × (s.waiting ≡ []))

-- of the bytes that were left the first line was given, or none were left
abbrev pub GivesFirstLine : Option (List ℕ) → List ℕ → List ℕ → Type 0
GivesFirstLine None before after = (before ≡ []) × (after ≡ [])
GivesFirstLine (Some line) before after = (line ≡ up_to_newline before) × (before ≡ line ++ after)
