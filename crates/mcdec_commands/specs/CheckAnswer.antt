-- When each answer to `check` comes.
use Rattle.std.specs.Prelude.{◌≡◌, ℕ, ◌<◌, ◌≤◌, List, length, Option, Some}
use Rattle.mc_shelf.specs.Shelf.{Contents}
use Rattle.elf_image.specs.Fault.{fault_of}
use Rattle.tailrec_lang.specs.Tree.{GroupTree}
use Rattle.group_text.specs.declared.version.Version.{Version as Known}
use Rattle.group_text.specs.Version.{version_of}
use Rattle.group_text.specs.Spelling.{text_in}
use Rattle.group_text.specs.Limits.{AreGroupsIn}
use Rattle.claims.specs.Headline.{Headline}
use Rattle.verdicts.specs.declared.verdict.Verdict.{Verdict}
use Rattle.verdicts.specs.declared.verdict.Verdict.TheVariants as verdict
use Rattle.proof_v2.specs.AnyVerdicts.{SaysOf}
use Rattle.mcdec_answers.specs.declared.answer.CheckAnswer.{CheckAnswer}
use Rattle.mcdec_answers.specs.declared.answer.CheckAnswer.TheVariants as answer
use Rattle.mcdec_commands.specs.Held.{HasFile}
use Rattle.mcdec_commands.specs.Listed.{lines_of, without_proofs}
use Rattle.mcdec_commands.specs.EvalAnswer.{proof_limit}
use Rattle.mcdec_commands.specs.RunAnswer.{elf_limit, IsLoaded}

-- the name holds a proof file within the limit with P
abbrev pub HoldsText : Option Contents → List ℕ → (List ℕ → Type 0) → Type 0
HoldsText told proof P = HasFile told proof (λ text. (length text ≤ proof_limit) × P text)

-- what `check` comes to by a verdict
abbrev pub VerdictGives : Option Contents → (proof file : List ℕ) → Verdict → Type 0
VerdictGives told proof file (verdict.BadElf why) = (length file ≤ elf_limit) × (fault_of file ≡ Some why)
VerdictGives told proof file verdict.NoMemory = ⊥
VerdictGives told proof file v = IsLoaded file × HoldsText told proof (λ text. SaysOf file text v)

-- What `check` comes to, where the ELF file has these bytes. The proof file is asked for where that can be read.
abbrev pub CheckGives : Option Contents → (proof file : List ℕ) → CheckAnswer → Type 0
CheckGives told proof file answer.ElfOverLimit = elf_limit < length file
CheckGives told proof file answer.ProofOverLimit = IsLoaded file × HasFile told proof (λ text. proof_limit < length text)
CheckGives told proof file (answer.Judged v) = VerdictGives told proof file v

-- The one name holds an ELF file, the other a text of that version. Without the lines of proofs and of their tables this is the
-- text of these groups, whose functions are right of the file.
pub record AreRightFiles (files : Contents) (elf proof : List ℕ) : Type 0 where
  pub file : List ℕ
  pub text : List ℕ
  pub holds_file : files elf ≡ Some file
  pub holds_text : files proof ≡ Some text
  pub version : Known
  pub groups : List GroupTree
  pub fit : AreGroupsIn (version_of version) groups
  pub listed : without_proofs text ≡ lines_of (text_in (version_of version) groups)
  pub right : Headline file groups
