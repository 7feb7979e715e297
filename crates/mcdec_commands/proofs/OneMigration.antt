-- The files give one answer to `migrate` at most.
use Rattle.std.proofs.Common.{◌≡◌, ℕ, ◌<◌, ◌≤◌, List, length, Some, refl, sym, ap, subst, ◌∙◌, ◌⊎◌, inl, inr}
use Rattle.mc_shelf.specs.Shelf.{Contents}
use Rattle.elf_image.specs.Fault.{IsReadable, fault_of}
use Rattle.elf_image.specs.declared.fault.ElfFault.{ElfFault}
use Rattle.group_text.specs.declared.version.Version.TheVariants.{One}
use Rattle.verdicts.specs.Instance.{no_rule}
use Rattle.verdicts.specs.Verdicts.{Says}
use Rattle.verdicts.specs.declared.verdict.Verdict.{Verdict}
use Rattle.verdicts.specs.declared.verdict.Verdict.TheVariants as verdict
use Rattle.verdicts.proofs.CheckLemmas.{whole-once}
use Rattle.mcdec_answers.specs.declared.answer.MigrateAnswer.{MigrateAnswer}
use Rattle.mcdec_answers.specs.declared.answer.MigrateAnswer.TheVariants as mi
use Rattle.mcdec_commands.specs.EvalAnswer.{proof_limit}
use Rattle.mcdec_commands.specs.RunAnswer.{elf_limit, IsLoaded}
use Rattle.mcdec_commands.specs.MigrateAnswer.{MigrateGives}
use Rattle.mcdec_commands.proofs.OneFile.{none_fault, over, some_fault, some_file}

-- the answer that a verdict on the text of the proof file is
abbrev answer_by : Verdict → MigrateAnswer
answer_by (verdict.Accepted functions lines) = mi.Migrated functions lines
answer_by v = mi.Refused v

abbrev TextCase : List ℕ → List ℕ → MigrateAnswer → Type 0
TextCase file text a = ((proof_limit < length text) × (a ≡ mi.ProofOverLimit)) ⊎ ((length text ≤ proof_limit) × (v : Verdict) × (v ≡ verdict.NoMemory → ⊥) × Says file text v × (a ≡ answer_by v))

text-unique : (file text : List ℕ) (a b : MigrateAnswer) → TextCase file text a → TextCase file text b → a ≡ b
text-unique file text a b (inl h) (inl k) = h.1 ∙ sym k.1
text-unique file text a b (inl h) (inr k) = absurd (over (length text) proof_limit h.0 k.0)
text-unique file text a b (inr h) (inl k) = absurd (over (length text) proof_limit k.0 h.0)
text-unique file text a b (inr (short, v, some, says, is)) (inr (less, w, other, said, this)) = is ∙ ap answer_by (whole-once no_rule One file text v w some other says said) ∙ sym this

abbrev FileCase : Contents → List ℕ → List ℕ → MigrateAnswer → Type 0
FileCase files proof file a =
    ((why : ElfFault) × (fault_of file ≡ Some why) × (a ≡ mi.Refused (verdict.BadElf why))) ⊎ (IsReadable file × (text : List ℕ) × (files proof ≡ Some text) × TextCase file text a)

file-unique : (files : Contents) (proof file : List ℕ) (a b : MigrateAnswer) → FileCase files proof file a → FileCase files proof file b → a ≡ b
file-unique files proof file a b (inl h) (inl k) = h.2 ∙ ap (λ (why : ElfFault). mi.Refused (verdict.BadElf why)) (some_fault h.0 k.0 (sym h.1 ∙ k.1)) ∙ sym k.2
file-unique files proof file a b (inl h) (inr k) = absurd (none_fault h.0 (sym k.0 ∙ h.1))
file-unique files proof file a b (inr h) (inl k) = absurd (none_fault k.0 (sym h.0 ∙ k.1))
file-unique files proof file a b (inr (r, text, held, h)) (inr (s, other, holds, k)) =
    let same : text ≡ other = some_file text other (sym held ∙ holds) in
    text-unique file other a b (subst (λ (t : List ℕ). TextCase file t a) same h) k

abbrev pub MigrateCase : Contents → List ℕ → List ℕ → MigrateAnswer → Type 0
MigrateCase files proof file a = ((elf_limit < length file) × (a ≡ mi.ElfOverLimit)) ⊎ ((length file ≤ elf_limit) × FileCase files proof file a)

pub migrate-unique : (files : Contents) (proof file : List ℕ) (a b : MigrateAnswer) → MigrateCase files proof file a → MigrateCase files proof file b → a ≡ b
migrate-unique files proof file a b (inl h) (inl k) = h.1 ∙ sym k.1
migrate-unique files proof file a b (inl h) (inr k) = absurd (over (length file) elf_limit h.0 k.0)
migrate-unique files proof file a b (inr h) (inl k) = absurd (over (length file) elf_limit k.0 h.0)
migrate-unique files proof file a b (inr h) (inr k) = file-unique files proof file a b h.1 k.1

judged-case : (files : Contents) (proof file : List ℕ) → IsLoaded file → (text : List ℕ) → files proof ≡ Some text → length text ≤ proof_limit → (v : Verdict) → (v ≡ verdict.NoMemory → ⊥) → Says file text v
    → MigrateCase files proof file (answer_by v)
judged-case files proof file loaded text held short v some says = inr (loaded.0, inr (loaded.1, text, held, inr (short, v, some, says, refl)))

pub migrate-case : (files : Contents) (proof file : List ℕ) (a : MigrateAnswer) → MigrateGives (Some files) proof file a → MigrateCase files proof file a
migrate-case files proof file mi.ElfOverLimit h = inl (h, refl)
migrate-case files proof file mi.ProofOverLimit (loaded, (text, held, long)) = inr (loaded.0, inr (loaded.1, text, held, inl (long, refl)))
migrate-case files proof file (mi.Refused (verdict.Accepted functions lines)) h = absurd h
migrate-case files proof file (mi.Refused (verdict.BadElf why)) h = inr (h.0, inl (why, h.1, refl))
migrate-case files proof file (mi.Refused verdict.NoMemory) h = absurd h
migrate-case files proof file (mi.Refused (verdict.BadText line)) (loaded, (text, held, (short, says))) = judged-case files proof file loaded text held short (verdict.BadText line) (λ e. cc) says
migrate-case files proof file (mi.Refused (verdict.BadDef group def)) (loaded, (text, held, (short, says))) = judged-case files proof file loaded text held short (verdict.BadDef group def) (λ e. cc) says
migrate-case files proof file (mi.Refused (verdict.BadLine line)) (loaded, (text, held, (short, says))) = judged-case files proof file loaded text held short (verdict.BadLine line) (λ e. cc) says
migrate-case files proof file (mi.Refused (verdict.NotProved group)) (loaded, (text, held, (short, says))) = judged-case files proof file loaded text held short (verdict.NotProved group) (λ e. cc) says
migrate-case files proof file (mi.Migrated functions lines) (loaded, (text, held, (short, says))) = judged-case files proof file loaded text held short (verdict.Accepted functions lines) (λ e. cc) says
