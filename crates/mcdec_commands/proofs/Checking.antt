-- What is answered to the command `check`.
use Rattle.std.proofs.Common.{◌≡◌, ◌≢◌, ℕ, ◌<◌, ◌≤◌, true, List, [], ◌∷◌, length, take, take_all, Option, Some, None, refl, subst, arith}
use Rattle.std.specs.Prelude.{IfSome, IsSomeAnd}
use Rattle.mc_shelf.specs.Shelf.{Contents}
use Rattle.elf_image.specs.Fault.{fault_of}
use Rattle.proof_text.specs.inner.PulledRows.{IfFile}
use Rattle.proof_text.proofs.PullLemmas.{told_so}
use Rattle.verdicts.specs.Pulled.{IfVerdict, is_outside}
use Rattle.verdicts.specs.declared.verdict.Pulled.{Pulled}
use Rattle.verdicts.specs.declared.verdict.Pulled.TheVariants as pulled
use Rattle.verdicts.specs.declared.verdict.Verdict.{Verdict}
use Rattle.verdicts.specs.declared.verdict.Verdict.TheVariants as verdict
use Rattle.proof_v2.specs.AnyVerdicts.{SaysOf}
use Rattle.proof_v2.specs.Titles.{named_version}
use Rattle.proof_v2.proofs.AnyVerdicts.{fault-in}
use Rattle.mcdec_answers.specs.declared.answer.CheckAnswer.{CheckAnswer}
use Rattle.mcdec_answers.specs.declared.answer.CheckAnswer.TheVariants as check
use Rattle.mcdec_answers.specs.declared.answer.Answer.{Answer}
use Rattle.mcdec_answers.specs.declared.answer.Answer.TheVariants as answer
use Rattle.mcdec_answers.specs.Command.{Check, Words}
use Rattle.mcdec_commands.specs.EvalAnswer.{proof_limit}
use Rattle.mcdec_commands.specs.Held.{HasFile}
use Rattle.mcdec_commands.specs.RunAnswer.{IsLoaded, elf_limit}
use Rattle.mcdec_commands.specs.CheckAnswer.{CheckGives, HoldsText}
use Rattle.mcdec_commands.specs.Answer.{Gives}
use Rattle.mcdec_commands.specs.inner.Checking.{ImageGives, answer_of, answer_to}
use Rattle.mcdec_commands.proofs.Answers.{held-such, held-with}

-- a command that reads two files
pub two-files : (elf proof : List ℕ) → elf ∷ proof ∷ [] ≢ []
two-files elf proof e = cc

-- The proof file was measured, and of so many of its bytes something is said.
module _ (proof file : List ℕ) (size : ℕ) (loaded : IsLoaded file) (short : size ≤ proof_limit) where
  -- so the name holds a text within the limit of which it is said
  measured-text : (told : Option Contents) (P : List ℕ → Type 0) → IfSome told (λ files. IsSomeAnd (files proof) (λ text. size ≡ length text)) → IfFile told proof (λ text. P (take size text))
      → IfSome told (λ files. IsLoaded file × HoldsText (Some files) proof P)
  measured-text None P measured h = tt
  measured-text (Some files) P measured h = by (files proof) refl measured h
    where
      by : (held : Option (List ℕ)) → files proof ≡ held → IsSomeAnd held (λ text. size ≡ length text) → IfSome held (λ text. P (take size text)) → IsLoaded file × HoldsText (Some files) proof P
      by None e measured h = absurd measured
      by (Some text) e measured h = (
        loaded,
        held-with (Some files) proof text (λ (t : List ℕ). (length t ≤ proof_limit) × P t) e
            (subst (λ (n : ℕ). n ≤ proof_limit) measured short, subst P (take_all size text (omega (arith, measured))) h),
      )

  -- what is said of the ELF file alone
  measured-file : (told : Option Contents) (P : Type 0) → IfSome told (λ files. IsSomeAnd (files proof) (λ text. size ≡ length text)) → IfFile told proof (λ text. P)
      → IfSome told (λ files. (length file ≤ elf_limit) × P)
  measured-file None P measured h = tt
  measured-file (Some files) P measured h = by (files proof) measured h
    where
      by : (held : Option (List ℕ)) → IsSomeAnd held (λ text. size ≡ length text) → IfSome held (λ text. P) → (length file ≤ elf_limit) × P
      by None measured h = absurd measured
      by (Some text) measured h = (loaded.0, h)

  -- what a check of it comes to
  module _ (told : Option Contents) (rose : Type 0) (measured : IfSome told (λ files. IsSomeAnd (files proof) (λ text. size ≡ length text))) where
    verdict-gives : (v : Verdict) → IfFile told proof (λ text. SaysOf file (take size text) v) → ImageGives told proof file rose (answer_of v)
    verdict-gives (verdict.Accepted functions lines) h = measured-text told (λ (t : List ℕ). SaysOf file t (verdict.Accepted functions lines)) measured h
    verdict-gives (verdict.BadText line) h = measured-text told (λ (t : List ℕ). SaysOf file t (verdict.BadText line)) measured h
    verdict-gives (verdict.BadDef group def) h = measured-text told (λ (t : List ℕ). SaysOf file t (verdict.BadDef group def)) measured h
    verdict-gives (verdict.BadLine line) h = measured-text told (λ (t : List ℕ). SaysOf file t (verdict.BadLine line)) measured h
    verdict-gives (verdict.NotProved group) h = measured-text told (λ (t : List ℕ). SaysOf file t (verdict.NotProved group)) measured h
    verdict-gives (verdict.BadElf why) h = measured-file told (fault_of file ≡ Some why) measured (told_so told proof _ _ (λ files text is held says. fault-in (named_version (take size text)) file (take size text) why says) h)
    verdict-gives verdict.NoMemory h = tt

    pub pulled-gives : (p : Pulled) → IfVerdict p (λ v. IfFile told proof (λ text. SaysOf file (take size text) v)) → (is_outside p ≡ true → rose) → ImageGives told proof file rose (answer_to p)
    pulled-gives (pulled.Verdict v) h failed = verdict-gives v h
    pulled-gives pulled.Fault h failed = failed refl

-- the proof file is over its limit
pub long-gives : (told : Option Contents) (proof file : List ℕ) (rose : Type 0) → IsLoaded file → IfSome told (λ files. IsSomeAnd (files proof) (λ text. proof_limit < length text)) → ImageGives told proof file rose (answer.Check check.ProofOverLimit)
long-gives None proof file rose loaded h = tt
long-gives (Some files) proof file rose loaded h = (loaded, held-such (Some files) proof (λ (text : List ℕ). proof_limit < length text) h)

-- what the command comes to, where it is told what the names hold
check-gives : (told : Option Contents) (elf proof file : List ℕ) (a : CheckAnswer) → IfSome told (λ files. files elf ≡ Some file) → IfSome told (λ files. CheckGives (Some files) proof file a)
    → HasFile told elf (λ f. CheckGives told proof f a)
check-gives None elf proof file a held h = tt
check-gives (Some files) elf proof file a held h = (file, held, h)

-- what is answered of the proof file is what the command comes to
pub image-gives : (told : Option Contents) (ws : List (List ℕ)) (elf proof file : List ℕ) (rose wrote later : Type 0) → Words ws (Check elf proof) → IfSome told (λ files. files elf ≡ Some file) → (later → rose)
    → (a : Answer) → ImageGives told proof file later a → Gives told ws rose wrote a
image-gives told ws elf proof file rose wrote later w held since answer.NotACommand h = absurd h
image-gives told ws elf proof file rose wrote later w held since answer.ReadFault h = (Check elf proof, w, two-files elf proof, since h)
image-gives told ws elf proof file rose wrote later w held since answer.WriteFault h = absurd h
image-gives told ws elf proof file rose wrote later w held since answer.NoMemory h = tt
image-gives told ws elf proof file rose wrote later w held since (answer.Decompile a) h = absurd h
image-gives told ws elf proof file rose wrote later w held since (answer.SelfTest a) h = absurd h
image-gives told ws elf proof file rose wrote later w held since (answer.Simplify a) h = absurd h
image-gives told ws elf proof file rose wrote later w held since (answer.Laws a) h = absurd h
image-gives told ws elf proof file rose wrote later w held since (answer.Smt a) h = absurd h
image-gives told ws elf proof file rose wrote later w held since (answer.Migrate a) h = absurd h
image-gives told ws elf proof file rose wrote later w held since (answer.Eval a) h = absurd h
image-gives told ws elf proof file rose wrote later w held since (answer.Run a) h = absurd h
image-gives told ws elf proof file rose wrote later w held since (answer.Check a) h = (elf, proof, w, check-gives told elf proof file a held h)
