-- What a name holds while a text is written into it.
use Rattle.std.specs.Prelude.{◌≡◌, ℕ, List, take, Option, Some, None, Result, Ok, Err, ◌⊎◌}
use Rattle.mc_shelf.specs.Shelf.{Contents, KeepsOthers}
use Rattle.mc_shelf.specs.declared.sink.Stop.{Stop}
use Rattle.mcdec_answers.specs.declared.answer.Answer.{Answer}
use Rattle.mcdec_answers.specs.declared.answer.Answer.TheVariants as answer
use Rattle.mcdec_answers.specs.Printed.{status}
use Rattle.mcdec_answers.specs.inner.Printing.{Gains}
use Rattle.mcdec_commands.specs.Output.{LeavesOut}

-- it is told what the names hold
abbrev pub IsTold : Option Contents → Type 0
IsTold None = ⊥
IsTold (Some files) = Unit {0}

-- The text, or a front of it after an error, stands at the end of what the name held; of a name that is missing nothing is said.
pub record AddsText (result : Result Unit Stop) (name text : List ℕ) (old new : Contents) : Type 0 where
  pub named : (before : List ℕ) → old name ≡ Some before → (after : List ℕ) × (new name ≡ Some after) × Gains result text before after
  pub others : KeepsOthers name old new

-- what a name holds after a text was written into it: the text, or, after an error, what it held or a front of the text
abbrev pub IsWritten : Result Unit Stop → List ℕ → Option (List ℕ) → Option (List ℕ) → Type 0
IsWritten (Ok x) text old new = new ≡ Some text
IsWritten (Err e) text old new = (new ≡ old) ⊎ ((kept : ℕ) × (new ≡ Some (take kept text)))

-- what that does to the names
pub record Writes (result : Result Unit Stop) (name text : List ℕ) (old new : Contents) : Type 0 where
  pub named : IsWritten result text (old name) (new name)
  pub others : KeepsOthers name old new

-- What the names hold after an answer to a command that may write these texts: the output file as the answer's status says, each other name
-- what it held.
pub record WritesOut (IsText : Contents → Answer → List ℕ → Type 0) (out : List ℕ) (a : Answer) (old new : Contents) : Type 0 where
  pub output : LeavesOut (IsText old) (λ b. b ≡ a) (status a) (old out) (new out)
  pub others : KeepsOthers out old new

-- an answer that tells of a text that was written, or why it wasn't
abbrev pub ToldOrFault : Answer → Answer → Type 0
ToldOrFault told a = (a ≡ told) ⊎ ((a ≡ answer.WriteFault) ⊎ (a ≡ answer.NoMemory))
