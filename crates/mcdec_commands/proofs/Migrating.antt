-- What is answered to the command `migrate`, and what its output file holds then.
use Rattle.std.proofs.Common.{◌≡◌, ℕ, ◌≤◌, List, length, Option, Some, None, refl, sym, subst, inl, inr}
use Rattle.std.specs.Prelude.{IfSome}
use Rattle.mc_shelf.specs.Shelf.{Contents}
use Rattle.verdicts.specs.declared.verdict.Verdict.{Verdict}
use Rattle.verdicts.specs.declared.verdict.Verdict.TheVariants as verdict
use Rattle.verdicts.specs.Verdicts.{IsAcceptance, Says}
use Rattle.proof_v2.specs.MigratedText.{IsMigratedText}
use Rattle.mcdec_answers.specs.declared.answer.Answer.{Answer}
use Rattle.mcdec_answers.specs.declared.answer.Answer.TheVariants as answer
use Rattle.mcdec_answers.specs.declared.answer.MigrateAnswer.TheVariants as migrate
use Rattle.mcdec_answers.specs.Printed.{status}
use Rattle.mcdec_answers.specs.Command.{Migrate, Words}
use Rattle.mcdec_commands.specs.EvalAnswer.{proof_limit}
use Rattle.mcdec_commands.specs.RunAnswer.{IsLoaded}
use Rattle.mcdec_commands.specs.MigrateAnswer.{IsMigrationFor, MigrateGives}
use Rattle.mcdec_commands.specs.Answer.{Gives}
use Rattle.mcdec_commands.specs.inner.Migrating.{FileMigrates, refusal_of}
use Rattle.mcdec_commands.specs.inner.Writing.{ToldOrFault}
use Rattle.mcdec_commands.proofs.Answers.{held-with}
use Rattle.mcdec_commands.proofs.Checking.{two-files}
use Rattle.mcdec_commands.proofs.Leaving.{has-output}

-- ---- the files that it reads

-- what is answered of the proof file is what the command comes to
pub migration-gives : (told : Option Contents) (ws : List (List ℕ)) (elf proof out file : List ℕ) (rose wrote later : Type 0) → Words ws (Migrate elf proof out) → IfSome told (λ files. files elf ≡ Some file) → (later → rose)
    → (a : Answer) → (status a ≡ 5 → wrote) → FileMigrates told proof file later a → Gives told ws rose wrote a
migration-gives told ws elf proof out file rose wrote later w held since answer.NotACommand cause h = absurd h
migration-gives told ws elf proof out file rose wrote later w held since answer.ReadFault cause h = (Migrate elf proof out, w, two-files elf proof, since h)
migration-gives told ws elf proof out file rose wrote later w held since answer.WriteFault cause h = (Migrate elf proof out, w, has-output out, cause refl)
migration-gives told ws elf proof out file rose wrote later w held since answer.NoMemory cause h = tt
migration-gives told ws elf proof out file rose wrote later w held since (answer.Eval a) cause h = absurd h
migration-gives told ws elf proof out file rose wrote later w held since (answer.Run a) cause h = absurd h
migration-gives told ws elf proof out file rose wrote later w held since (answer.Check a) cause h = absurd h
migration-gives told ws elf proof out file rose wrote later w held since (answer.Decompile a) cause h = absurd h
migration-gives told ws elf proof out file rose wrote later w held since (answer.SelfTest a) cause h = absurd h
migration-gives told ws elf proof out file rose wrote later w held since (answer.Simplify a) cause h = absurd h
migration-gives told ws elf proof out file rose wrote later w held since (answer.Laws a) cause h = absurd h
migration-gives told ws elf proof out file rose wrote later w held since (answer.Smt a) cause h = absurd h
migration-gives told ws elf proof out file rose wrote later w held since (answer.Migrate a) cause h = (elf, proof, out, w, held-with told elf file (λ f. MigrateGives told proof f a) held h)

-- ---- the text of the proof file

module _ (told : Option Contents) (proof file text : List ℕ) (rose : Type 0) (loaded : IsLoaded file) (small : length text ≤ proof_limit) (held : IfSome told (λ files. files proof ≡ Some text)) where
  -- a verdict that refuses it
  pub refused-gives : (v : Verdict) → Says file text v → (IsAcceptance v → ⊥) → FileMigrates told proof file rose (refusal_of v)
  refused-gives (verdict.Accepted functions lines) says refuses = absurd (refuses tt)
  refused-gives (verdict.BadElf why) says refuses = (loaded.0, says)
  refused-gives (verdict.BadText line) says refuses = (loaded, held-with told proof text (λ t. (length t ≤ proof_limit) × Says file t (verdict.BadText line)) held (small, says))
  refused-gives (verdict.BadDef group def) says refuses = (loaded, held-with told proof text (λ t. (length t ≤ proof_limit) × Says file t (verdict.BadDef group def)) held (small, says))
  refused-gives (verdict.BadLine line) says refuses = (loaded, held-with told proof text (λ t. (length t ≤ proof_limit) × Says file t (verdict.BadLine line)) held (small, says))
  refused-gives (verdict.NotProved group) says refuses = (loaded, held-with told proof text (λ t. (length t ≤ proof_limit) × Says file t (verdict.NotProved group)) held (small, says))
  refused-gives verdict.NoMemory says refuses = tt

  -- .. and what is answered of what it becomes
  pub migrated-told : (functions lines : ℕ) → Says file text (verdict.Accepted functions lines) → (a : Answer) → ToldOrFault (answer.Migrate (migrate.Migrated functions lines)) a
      → FileMigrates told proof file rose a
  migrated-told functions lines says a (inl e) =
      subst (FileMigrates told proof file rose) (sym e) (loaded, held-with told proof text (λ t. (length t ≤ proof_limit) × Says file t (verdict.Accepted functions lines)) held (small, says))
  migrated-told functions lines says a (inr (inl e)) = subst (FileMigrates told proof file rose) (sym e) tt
  migrated-told functions lines says a (inr (inr e)) = subst (FileMigrates told proof file rose) (sym e) tt

-- the text that is written, and the answer that tells of it
pub migration-for : (elf proof file text : List ℕ) → IsLoaded file → length text ≤ proof_limit → (functions lines : ℕ) → Says file text (verdict.Accepted functions lines)
    → (more : List ℕ) → IsMigratedText file text more → (files : Contents) → (files elf ≡ Some file) × (files proof ≡ Some text)
    → IsMigrationFor files elf proof (answer.Migrate (migrate.Migrated functions lines)) more
migration-for elf proof file text loaded small functions lines says more migrated files held = record {
  file = file;
  holds_file = held.0;
  loaded = loaded;
  text = text;
  holds_text = held.1;
  within = small;
  migrated = migrated;
  functions = functions;
  lines = lines;
  says = says;
  told = refl;
}

pub both-held : (told : Option Contents) (P Q : Contents → Type 0) → IfSome told P → IfSome told Q → IfSome told (λ files. P files × Q files)
both-held None P Q p q = tt
both-held (Some files) P Q p q = (p, q)
