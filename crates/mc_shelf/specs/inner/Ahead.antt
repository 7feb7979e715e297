-- What was read of a file ahead of what was taken.
use Rattle.std.specs.Prelude.{◌≡◌, ℕ, ◌+◌, ◌-◌, ◌≤◌, ◌⊎◌, Bool, true, false, List, [], ◌++◌, length, Option, None, Some, if◌then◌else◌}
use Rattle.mc_shelf.specs.Shelf.{Contents}
use Rattle.mc_shelf.specs.Lines.{up_to_newline, unread, IsEnded}

pub record AheadState : Type 0 where
  -- the place at which the next read begins
  pub place : ℕ
  -- the bytes before it that were not taken yet
  pub waiting : List ℕ
  -- the shelf gave nothing
  pub ended : Bool

-- the bytes that are still to be taken of the file, up to the size
abbrev pub still : ℕ → AheadState → List ℕ → List ℕ
still size a file = a.waiting ++ unread size a.place a.ended file

-- a bound on the blocks that may still be read and the bytes that may still be taken
abbrev pub to_go : ℕ → AheadState → ℕ
to_go size a = (size - a.place) + length a.waiting + (if a.ended then 0 else 1)

-- no byte is
pub record IsDone (size : ℕ) (a : AheadState) : Type 0 where
  pub none : a.waiting ≡ []
  pub last : (a.place ≡ size) ⊎ (a.ended ≡ true)

-- the bytes were taken, of those that a name holds where it is told
abbrev pub WasTaken : ℕ → List ℕ → AheadState → AheadState → Option (List ℕ) → Type 0
WasTaken size taken old new None = Unit {0}
WasTaken size taken old new (Some file) = still size old file ≡ taken ++ still size new file

-- the same, where it is told what the names hold
abbrev pub TakesOf : ℕ → List ℕ → AheadState → AheadState → Option Contents → List ℕ → Type 0
TakesOf size taken old new None name = Unit {0}
TakesOf size taken old new (Some files) name = WasTaken size taken old new (files name)

-- these bytes were taken
pub record Takes (size : ℕ) (taken : List ℕ) (told : Option Contents) (name : List ℕ) (old new : AheadState) : Type 0 where
  pub of : TakesOf size taken old new told name
  pub count : old.place + length taken + length new.waiting ≡ new.place + length old.waiting
  pub within : new.place ≤ size
  pub done : IsDone size old → (taken ≡ []) × (new ≡ old)

-- no newline is in the bytes, so that their line goes on in those behind them
pub record IsOpen (bytes : List ℕ) : Type 0 where
  pub goes_on : (more : List ℕ) → up_to_newline (bytes ++ more) ≡ bytes ++ up_to_newline more

-- whether the first line of the bytes ends in them
abbrev pub HasLine : Bool → List ℕ → Type 0
HasLine true bytes = IsEnded (up_to_newline bytes)
HasLine false bytes = IsOpen bytes
