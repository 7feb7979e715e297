-- A text that is accepted, and what it becomes.
use Rattle.std.proofs.Common.{◌≡◌, ◌⊎◌, ℕ, List, Result, Err, inl, inr, refl, sym, ap, ◌∙◌, subst}
use Rattle.group_text.specs.declared.version.Version.TheVariants.{One}
use Rattle.proof_text.proofs.WholeLaws.{lines_known}
use Rattle.verdicts.specs.declared.verdict.Verdict.{Verdict}
use Rattle.verdicts.specs.declared.verdict.Verdict.TheVariants as verdict
use Rattle.verdicts.specs.Instance.{no_rule}
use Rattle.verdicts.specs.LineRules.{whole_rules}
use Rattle.verdicts.specs.Verdicts.{IsAcceptance, Says}
use Rattle.verdicts.proofs.FirstLemmas.{proved-right}
use Rattle.verdicts.proofs.OneVerdict.{accepted-proofs}
use Rattle.proof_v2.specs.MigratedText.{IsMigratedText}
use Rattle.proof_v2.specs.inner.Rewriting.{BecomesText, IsRightText}

module _ (file text : List ℕ) (f l : ℕ) (a : Says file text (verdict.Accepted f l)) where
  pub right-text : IsRightText text
  right-text = record { proofs = a.proofs; spelled = a.spelled; right = proved-right (whole_rules no_rule) file a.proofs a.accepted.each }

  pub migrated-text : (more : List ℕ) → BecomesText text more → IsMigratedText file text more
  migrated-text more b = record {
    old = b.old;
    spelled = b.spelled;
    accepted = accepted-proofs (lines_known One) (whole_rules no_rule) file text (verdict.Accepted f l) a tt b.old b.spelled;
    new = b.new;
    migrated = b.migrated;
    fit = b.fit;
    is = b.is;
  }

-- which verdict refuses it
pub refused-by : {X : Type 0} (checked v : Verdict) (result : Result X Verdict) → result ≡ Err checked → (checked ≡ v) ⊎ (v ≡ verdict.NoMemory) ⊎ (checked ≡ verdict.NoMemory)
    → (result ≡ Err v) ⊎ (v ≡ verdict.NoMemory) ⊎ (result ≡ Err verdict.NoMemory)
refused-by checked v result is (inl e) = inl (is ∙ ap Err e)
refused-by checked v result is (inr (inl e)) = inr (inl e)
refused-by checked v result is (inr (inr e)) = inr (inr (is ∙ ap Err e))

-- one that isn't a verdict of acceptance
pub no-acceptance : (v : Verdict) → ((f l : ℕ) → v ≡ verdict.Accepted f l → ⊥) → IsAcceptance v → ⊥
no-acceptance (verdict.Accepted f l) never h = never f l refl
no-acceptance (verdict.BadElf why) never h = h
no-acceptance (verdict.BadText n) never h = h
no-acceptance (verdict.BadDef g d) never h = h
no-acceptance (verdict.BadLine n) never h = h
no-acceptance (verdict.NotProved g) never h = h
no-acceptance verdict.NoMemory never h = h

-- where it is accepted, none but for lack of memory
pub not-refused : (f l : ℕ) (checked v : Verdict) → checked ≡ verdict.Accepted f l → (IsAcceptance v → ⊥) → (checked ≡ v) ⊎ (v ≡ verdict.NoMemory) ⊎ (checked ≡ verdict.NoMemory) → v ≡ verdict.NoMemory
not-refused f l checked v is never (inl e) = absurd (never (subst IsAcceptance (sym is ∙ e) tt))
not-refused f l checked v is never (inr (inl e)) = e
not-refused f l checked v is never (inr (inr e)) = absurd (subst IsAcceptance (sym is ∙ e) tt)

pub for-memory : (file text : List ℕ) (v : Verdict) → v ≡ verdict.NoMemory → Says file text v × (IsAcceptance v → ⊥)
for-memory file text v e = subst (λ (w : Verdict). Says file text w × (IsAcceptance w → ⊥)) (sym e) (tt, λ h. h)
