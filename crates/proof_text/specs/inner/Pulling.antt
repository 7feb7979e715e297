-- What a call reads of the rows of a file that is told.
use Rattle.std.specs.Prelude.{◌≡◌, ℕ, ◌+◌, List, ◌++◌, Option, Some, None, Result, Ok, Err}
use Rattle.mc_text.specs.declared.token.Before.TheVariants.{Start}
use Rattle.mc_text.specs.Tokens.{Tok}
use Rattle.mc_text.specs.Scanning.{lex, At, eols}
use Rattle.mc_text.specs.Fault.{newlines}
use Rattle.mc_text.specs.Reading.{Reader}
use Rattle.tailrec_lang.specs.Tree.{GroupTree}
use Rattle.group_text.specs.inner.Cut.{AreWholeLines, drop_lines}
use Rattle.group_text.specs.declared.read_error.RowError.{RowError}
use Rattle.group_text.specs.declared.read_error.RowError.TheVariants as row
use Rattle.proof_text.specs.declared.pull_fault.PullFault.{PullFault}
use Rattle.proof_text.specs.declared.pull_fault.PullFault.TheVariants as pull
use Rattle.proof_text.specs.inner.PulledRows.{PulledState, not_passed}

-- by what a row was lost, where a call is refused so
abbrev pub fault_lost : PullFault → Option RowError
fault_lost (pull.Bad n) = None
fault_lost pull.Fault = Some row.Fault
fault_lost pull.NoMemory = Some row.NoMemory

abbrev pub pull_lost : {X : Type 0} → Result X PullFault → Option RowError
pull_lost (Ok x) = None
pull_lost (Err fault) = fault_lost fault

-- the lines that were not passed, and the bytes behind them
pub record LinesLeft (s : PulledState) (file : List ℕ) (lines tail : List ℕ) : Type 0 where
  pub is : not_passed s file ≡ lines ++ tail
  pub whole : AreWholeLines lines
  pub none : newlines tail ≡ 0

-- something was read from the first of them on, and so many rows were passed
pub record ReadFrom {Y : Type 0} (r : Reader Y) (y : Y) (old new : PulledState) (file : List ℕ) : Type 0 where
  pub lines : List ℕ
  pub tail : List ℕ
  pub more : List ℕ
  pub rows : ℕ
  pub before : LinesLeft old file lines tail
  pub is : r (lex lines (At Start)) ≡ Ok (y, lex more (At Start))
  pub rest : more ≡ drop_lines rows lines
  pub count : rows + 1 + eols (lex more (At Start)) ≡ 1 + eols (lex lines (At Start))
  pub after : LinesLeft new file more tail
  pub taken : new.taken ≡ old.taken + rows

-- the text ends so in front of certain bytes, behind so many rows
pub record EndsBehind (r : Reader (Option GroupTree)) (old : PulledState) (file : List ℕ) (taken : ℕ) (End : List ℕ → Type 0) : Type 0 where
  pub behind : PulledState
  pub read : ReadFrom r None old behind file
  pub taken_is : behind.taken ≡ taken
  pub left : End (not_passed behind file)

-- reading stops in the row behind so many
pub record StoppedAt {Y : Type 0} (r : Reader Y) (old : PulledState) (place : ℕ) (file : List ℕ) : Type 0 where
  pub lines : List ℕ
  pub tail : List ℕ
  pub bad : List Tok
  pub rows : ℕ
  pub before : LinesLeft old file lines tail
  pub is : r (lex lines (At Start)) ≡ Err bad
  pub count : rows + 1 + eols bad ≡ 1 + eols (lex lines (At Start))
  pub at : place ≡ old.taken + rows + 1
