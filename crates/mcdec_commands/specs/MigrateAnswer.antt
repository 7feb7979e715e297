-- When each answer to `migrate` comes, and what text it writes.
use Rattle.std.specs.Prelude.{◌≡◌, ℕ, ◌<◌, ◌≤◌, List, length, Option, Some}
use Rattle.mc_shelf.specs.Shelf.{Contents}
use Rattle.elf_image.specs.Fault.{fault_of}
use Rattle.verdicts.specs.Verdicts.{Says}
use Rattle.verdicts.specs.declared.verdict.Verdict.{Verdict}
use Rattle.verdicts.specs.declared.verdict.Verdict.TheVariants as verdict
use Rattle.proof_v2.specs.MigratedText.{IsMigratedText}
use Rattle.mcdec_answers.specs.declared.answer.Answer.{Answer}
use Rattle.mcdec_answers.specs.declared.answer.Answer.TheVariants.{Migrate}
use Rattle.mcdec_answers.specs.declared.answer.MigrateAnswer.{MigrateAnswer}
use Rattle.mcdec_answers.specs.declared.answer.MigrateAnswer.TheVariants as answer
use Rattle.mcdec_commands.specs.Held.{HasFile}
use Rattle.mcdec_commands.specs.CheckAnswer.{HoldsText}
use Rattle.mcdec_commands.specs.EvalAnswer.{proof_limit}
use Rattle.mcdec_commands.specs.RunAnswer.{elf_limit, IsLoaded}

-- what a verdict that refuses a text of version 1 says
abbrev pub RefusalGives : Option Contents → (proof file : List ℕ) → Verdict → Type 0
RefusalGives told proof file (verdict.Accepted functions lines) = ⊥
RefusalGives told proof file (verdict.BadElf why) = (length file ≤ elf_limit) × (fault_of file ≡ Some why)
RefusalGives told proof file verdict.NoMemory = ⊥
RefusalGives told proof file v = IsLoaded file × HoldsText told proof (λ text. Says file text v)

-- What `migrate` comes to, where the ELF file has these bytes. The proof file is asked for where that can be read. Where its text, of
-- version 1, is accepted, its functions and lines are counted.
abbrev pub MigrateGives : Option Contents → (proof file : List ℕ) → MigrateAnswer → Type 0
MigrateGives told proof file answer.ElfOverLimit = elf_limit < length file
MigrateGives told proof file answer.ProofOverLimit = IsLoaded file × HasFile told proof (λ text. proof_limit < length text)
MigrateGives told proof file (answer.Refused v) = RefusalGives told proof file v
MigrateGives told proof file (answer.Migrated functions lines) = IsLoaded file × HoldsText told proof (λ text. Says file text (verdict.Accepted functions lines))

-- The text of version 2 that a text of version 1 becomes, where the name ELF holds a file and the name PROOF that text, which is accepted
-- for the file. The answer tells how many functions and lines it has.
pub record IsMigrationFor (files : Contents) (elf proof : List ℕ) (a : Answer) (more : List ℕ) : Type 0 where
  pub file : List ℕ
  pub holds_file : files elf ≡ Some file
  pub loaded : IsLoaded file
  pub text : List ℕ
  pub holds_text : files proof ≡ Some text
  pub within : length text ≤ proof_limit
  pub migrated : IsMigratedText file text more
  pub functions : ℕ
  pub lines : ℕ
  pub says : Says file text (verdict.Accepted functions lines)
  pub told : a ≡ Migrate (answer.Migrated functions lines)
