use Rattle.std.proofs.Common.{◌≡◌, ℕ, inl, inr, refl, subst}
use Rattle.std.proofs.lemmas.Result.{IfErr-weaker, IfOk-weaker}
use Rattle.verdicts.specs.declared.verdict.Verdict.{Verdict}
use Rattle.verdicts.specs.declared.verdict.Verdict.TheVariants as verdict
use Rattle.group_text.specs.Version.{version_2}
use Rattle.verdicts.specs.Verdicts.{IsAcceptance, IsAcceptedOver, Says}
use Rattle.checker.specs.ShortRules.{short_rules}
use Rattle.proof_v2.specs.MigratedText.{IsMigratedText}
use Rattle.proof_v2.specs.inner.Rewriting.{BecomesText}
use Rattle.proof_v2.proofs.AcceptedTexts.{both-accepted}
use Rattle.proof_v2.proofs.MigratedTexts.{for-memory, migrated-text, no-acceptance, not-refused, refused-by, right-text}
use Rattle.proof_v2.proofs.texts.migrate.Goals as goal

pub rewritten-requires : goal.rewritten-requires
rewritten-requires c =
    right-text c.args.elf.now c.args.proof.now _ _ (subst (λ (v : Verdict). Says c.args.elf.now c.args.proof.now v) c.in-Accepted.is c.check_bytes.ensures.verdict)

pub returns-in-Accepted-clause-text : goal.returns-in-Accepted-clause-text
returns-in-Accepted-clause-text c =
    let file = c.args.elf.now in
    let text = c.args.proof.now in
    IfOk-weaker c.rewritten.result (BecomesText text) (IsMigratedText file text)
    (λ more. migrated-text file text _ _ (subst (λ (v : Verdict). Says file text v) c.in-Accepted.is c.check_bytes.ensures.verdict) more)
    c.rewritten.ensures.text

pub returns-in-Accepted-clause-accepted : goal.returns-in-Accepted-clause-accepted
returns-in-Accepted-clause-accepted c =
    let file = c.args.elf.now in
    let text = c.args.proof.now in
    IfOk-weaker c.rewritten.result (BecomesText text)
    (λ more. (functions : ℕ) × (lines : ℕ) × Says file text (verdict.Accepted functions lines) × IsAcceptedOver short_rules version_2 file more functions lines)
    (λ more b. both-accepted file text more (migrated-text file text _ _ (subst (λ (v : Verdict). Says file text v) c.in-Accepted.is c.check_bytes.ensures.verdict) more b))
    c.rewritten.ensures.text

pub returns-in-Accepted-clause-refused : goal.returns-in-Accepted-clause-refused
returns-in-Accepted-clause-refused c =
    let file = c.args.elf.now in
    let text = c.args.proof.now in
    IfErr-weaker c.rewritten.result (λ (v : Verdict). v ≡ verdict.NoMemory) (λ (v : Verdict). Says file text v × (IsAcceptance v → ⊥)) (for-memory file text) c.rewritten.ensures.refused

pub returns-in-Accepted-clause-exact : goal.returns-in-Accepted-clause-exact
returns-in-Accepted-clause-exact c v says never = inr (inl (not-refused _ _ c.check_bytes.result v c.in-Accepted.is never (c.check_bytes.ensures.exact v says)))

pub returns-in_default-clause-refused : goal.returns-in_default-clause-refused
returns-in_default-clause-refused c = (c.check_bytes.ensures.verdict, no-acceptance c.check_bytes.result c.in_default.not-Accepted)

pub returns-in_default-clause-exact : goal.returns-in_default-clause-exact
returns-in_default-clause-exact c v says never = refused-by c.check_bytes.result v _ refl (c.check_bytes.ensures.exact v says)
