-- What the file that a command writes holds after it.
use Rattle.std.specs.Prelude.{◌≡◌, ◌≢◌, ℕ, List, take, Option, Some, ◌⊎◌}
use Rattle.mc_shelf.specs.Shelf.{Contents}
use Rattle.mcdec_answers.specs.declared.answer.Answer.{Answer}
use Rattle.mcdec_answers.specs.Command.{Command, Decompile, Simplify, Smt, Migrate}
use Rattle.mcdec_commands.specs.DecompileAnswer.{IsTextFor}
use Rattle.mcdec_commands.specs.SimplifyAnswer.{IsCertFor}
use Rattle.mcdec_commands.specs.SmtAnswer.{IsScriptFor}
use Rattle.mcdec_commands.specs.MigrateAnswer.{IsMigrationFor}

-- the texts that a command may write, where the names hold these files, each with the answer that tells of it
abbrev pub IsOutput : Contents → Command → Answer → List ℕ → Type 0
IsOutput files (Decompile form elf out names) = IsTextFor form files elf names
IsOutput files (Simplify proof name out) = IsCertFor files proof name
IsOutput files (Smt proof name def out) = IsScriptFor files proof name def
IsOutput files (Migrate elf proof out) = IsMigrationFor files elf proof
IsOutput files other = λ a text. ⊥

-- it holds all of such a text, of which the answer that is given tells
abbrev pub HoldsAll : (IsText : Answer → List ℕ → Type 0) (IsGiven : Answer → Type 0) → Option (List ℕ) → Type 0
HoldsAll IsText IsGiven now = (a : Answer) × (text : List ℕ) × IsGiven a × IsText a text × (now ≡ Some text)

-- it holds what it held, or a front of such a text
abbrev pub HoldsFront : (IsText : Answer → List ℕ → Type 0) (before now : Option (List ℕ)) → Type 0
HoldsFront IsText before now = (now ≡ before) ⊎ ((a : Answer) × (text : List ℕ) × IsText a text × (kept : ℕ) × (now ≡ Some (take kept text)))

-- What the file holds after a command that ended with this status: all of a text, of which the given answer tells, after 0, a front of one or
-- what it held after 5 and 6, and what it held after any other.
pub record LeavesOut (IsText : Answer → List ℕ → Type 0) (IsGiven : Answer → Type 0) (status : ℕ) (before now : Option (List ℕ)) : Type 0 where
  pub whole : status ≡ 0 → HoldsAll IsText IsGiven now
  pub front : (status ≡ 5) ⊎ (status ≡ 6) → HoldsFront IsText before now
  pub same : status ≢ 0 → status ≢ 5 → status ≢ 6 → now ≡ before
