-- Reading by rows: what a reader answers, by the places at which its rows may stand.
use Rattle.std.specs.Prelude.{◌≡◌, ℕ, ◌+◌, Bool, true, false, List, [], ◌++◌, Option, Some, None, Result, Ok, Err}
use Rattle.mc_text.specs.declared.token.Before.TheVariants.{Start}
use Rattle.mc_text.specs.Tokens.{Tok}
use Rattle.mc_text.specs.Scanning.{lex, At, eols}
use Rattle.mc_text.specs.Printing.{BeginsWith}
use Rattle.mc_text.specs.Fault.{first_lines}
use Rattle.mc_text.specs.Reading.{Reader}
use Rattle.mc_text.specs.declared.cursor.TokenError.{TokenError}
use Rattle.mc_text.specs.declared.cursor.TokenError.TheVariants as stop
use Rattle.group_text.specs.declared.read_error.RowError.{RowError}
use Rattle.group_text.specs.declared.read_error.RowError.TheVariants as lost
use Rattle.group_text.specs.declared.read_error.ReadError.{ReadError}
use Rattle.group_text.specs.declared.read_error.ReadError.TheVariants as halt
use Rattle.group_text.specs.inner.Cut.{drop_lines}

-- the beginning of a row: the whole rows from there on, and how many lie before
pub record RowPosition : Type 0 where
  pub rest : List ℕ
  pub taken : ℕ

abbrev pub tokens : RowPosition → List Tok
tokens p = lex p.rest (At Start)

-- the number of the text's rows, as far as its tokens go
abbrev pub total : RowPosition → ℕ
total p = p.taken + eols (tokens p)

-- bytes up to and with the first newline, and no more
abbrev pub IsRow : List ℕ → Type 0
IsRow row = first_lines 1 row ≡ Some row

-- the places at which rows may stand. Where the text is told there is one; where it isn't, all are that begin with
-- the row that is held
abbrev pub RowPositions : Type 1
RowPositions = RowPosition → Type 0

-- the one place is the other with that row passed
pub record Passed (row : List ℕ) (old new : RowPosition) : Type 0 where
  pub rest : old.rest ≡ row ++ new.rest
  pub taken : new.taken ≡ old.taken + 1

-- some rows lie between two places
pub record Way (old new : RowPosition) : Type 0 where
  pub rows : ℕ
  pub taken : new.taken ≡ old.taken + rows
  pub rest : new.rest ≡ drop_lines rows old.rest

-- whether a row follows: it is held then
abbrev pub Holds : Bool → List ℕ → RowPositions → Type 0
Holds true row may = IsRow row × ((p : RowPosition) → may p → BeginsWith row p.rest)
Holds false row may = (p : RowPosition) → may p → p.rest ≡ []

-- why rows could not be held
abbrev pub row_read_error : RowError → ReadError
row_read_error lost.Fault = halt.Fault
row_read_error lost.NoMemory = halt.NoMemory

-- why reading stopped in a row
abbrev pub in_row : TokenError → ReadError
in_row stop.Bad = halt.Bad
in_row stop.NoMemory = halt.NoMemory

-- by what a row was lost in a call, or nothing
abbrev pub lost_by : {X : Type 0} → Result X RowError → Option RowError
lost_by (Ok x) = None
lost_by (Err e) = Some e

abbrev pub row_error : ReadError → Option RowError
row_error halt.Bad = None
row_error halt.Fault = Some lost.Fault
row_error halt.NoMemory = Some lost.NoMemory

-- by what reading was kept from going on, other than the text, or nothing
abbrev pub halted_by : {X : Type 0} → Result X ReadError → Option RowError
halted_by (Ok x) = None
halted_by (Err e) = row_error e

-- from every place at which the rows may stand afterwards one comes back to a place at which they might stand before,
-- and from there just this was read
pub record ReadOk {Y : Type 0} (read : Reader Y) (y : Y) (old : RowPositions) (new : RowPosition) : Type 0 where
  pub spot : RowPosition
  pub may : old spot
  pub is : read (tokens spot) ≡ Ok (y, tokens new)
  pub way : Way spot new
  pub total : total spot ≡ total new

-- likewise, and reading stops in the row that is next
pub record ReadBad {Y : Type 0} (read : Reader Y) (old : RowPositions) (new : RowPosition) : Type 0 where
  pub spot : RowPosition
  pub may : old spot
  pub bad : List Tok
  pub is : read (tokens spot) ≡ Err bad
  pub row : eols bad ≡ eols (tokens new)
  pub total : total spot ≡ total new

abbrev pub RowsGive : {X Y : Type 0} → (X → Y) → Result X ReadError → RowPositions → RowPositions → Reader Y → Type 0
RowsGive view (Ok x) old new read = (q : RowPosition) → new q → ReadOk read (view x) old q
RowsGive view (Err halt.Bad) old new read = (q : RowPosition) → new q → ReadBad read old q
RowsGive view (Err halt.Fault) old new read = Unit {0}
RowsGive view (Err halt.NoMemory) old new read = Unit {0}

-- where a row was lost, or no memory was left
abbrev pub OnRowError : {X : Type 0} → Result X ReadError → Type 0 → Type 0
OnRowError (Ok x) P = Unit {0}
OnRowError (Err halt.Bad) P = Unit {0}
OnRowError (Err halt.Fault) P = P
OnRowError (Err halt.NoMemory) P = P
