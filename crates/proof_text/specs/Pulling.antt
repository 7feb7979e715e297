-- Reading a text from a file, line by line: what is read is what the name holds, up to a number of bytes.
use Rattle.std.specs.Prelude.{◌≡◌, ◌≢◌, ℕ, ◌≤◌, ◌<◌, Bool, true, false, List, [], take, Option, Some, None, Result, Ok, Err, IfOk, IfErr, IfSome}
use Rattle.mc_shelf.specs.Lines.{LinesState}
use Rattle.mc_shelf.specs.Shelf.{Contents}
use Rattle.mc_shelf.specs.inner.OnlyReads.{OnlyReads}
use Rattle.group_text.specs.declared.version.Version.{Version as Known}
use Rattle.proof_text.specs.declared.pull_fault.PullFault.{PullFault}
use Rattle.proof_text.specs.declared.pull_fault.PullFault.TheVariants as pull
use Rattle.proof_text.specs.FirstProofs.{Progress}
use Rattle.proof_text.specs.inner.PulledRows.{PulledState, not_passed, rows_left}

pub record PullState : Type 0 where
  pub version : Known
  -- the file's lines, and what was pulled of them and not yet passed
  pub rows : PulledState
  -- the number of the last line of the group or line that was given last
  pub place : ℕ
  -- the end of the text was found
  pub ended : Bool
  -- the refusal that was answered, and that each further call answers
  pub refused : Option PullFault

-- no call was made on the lines of a file
pub record AreFresh (l : LinesState) : Type 0 where
  pub given : l.given ≡ 0
  pub waiting : l.waiting ≡ []
  pub ended : l.ended ≡ false
  pub refused : l.refused ≡ None

-- the text, where the name holds that file
abbrev pub held_text : PullState → List ℕ → List ℕ
held_text s file = take s.rows.lines.size file

-- how far it was read
abbrev pub progress_in : PullState → List ℕ → Progress
progress_in s file = record { version = s.version; text = held_text s file; rest = not_passed s.rows file; place = s.place }

-- how many bytes are left at most
abbrev pub left_of : PullState → ℕ
left_of s = rows_left s.rows

-- a line is told with which no text goes on
abbrev pub IfBad : PullFault → (ℕ → Type 0) → Type 0
IfBad (pull.Bad n) P = P n
IfBad pull.Fault P = Unit {0}
IfBad pull.NoMemory P = Unit {0}

abbrev pub is_fault : {X : Type 0} → Result X PullFault → Bool
is_fault (Ok x) = false
is_fault (Err (pull.Bad n)) = false
is_fault (Err pull.Fault) = true
is_fault (Err pull.NoMemory) = false

-- the outside failed, and this wasn't answered before
abbrev pub FailedNow : {X : Type 0} → Result (Option X) PullFault → PullState → Type 0
FailedNow result old = (result ≡ Err pull.Fault) × (old.refused ≢ Some pull.Fault)

-- what each call does, over every shelf: it only reads; what it answers after a refusal or after the end; and how many bytes are left
pub record Pulls {Store : Type 0} (contents : Store → Option Contents) (read_faults write_faults : Store → ℕ) (IsSure : Store → Type 0)
    {X : Type 0} (result : Result (Option X) PullFault) (old : PullState) (before : Store) (new : PullState) (after : Store) : Type 0 where
  pub shelf : OnlyReads contents read_faults write_faults IsSure (FailedNow result old) old.rows.lines.name before after
  pub version : new.version ≡ old.version
  pub name : new.rows.lines.name ≡ old.rows.lines.name
  pub size : new.rows.lines.size ≡ old.rows.lines.size
  pub again : IfSome old.refused (λ fault. result ≡ Err fault)
  pub refuses : IfErr result (λ fault. new.refused ≡ Some fault)
  pub goes_on : IfOk result (λ _. new.refused ≡ None)
  pub still_ended : old.refused ≡ None → old.ended ≡ true → result ≡ Ok None
  pub left : left_of new ≤ left_of old
  pub fewer : IfOk result (λ found. IfSome found (λ _. left_of new < left_of old))
