-- What verdicts say of texts of whole lines.
use Rattle.std.proofs.Common.{◌≡◌, ℕ, ◌≤◌, List, [], ◌∷◌, sym, ◌∙◌, ◌⊎◌}
use Rattle.tailrec_lang.specs.Tree.{GroupTree}
use Rattle.proof_text.specs.Line.{LineTree, ProofTree}
use Rattle.proof_text.specs.LineGrammar.{whole_lines}
use Rattle.proof_text.specs.Proofs.{AreProofsIn, groups_of}
use Rattle.group_text.specs.Limits.{AreGroupsIn}
use Rattle.group_text.specs.declared.version.Version.{Version as Known}
use Rattle.group_text.specs.Version.{Version, version_of}
use Rattle.proof_text.proofs.WholeLaws.{lines_known}
use Rattle.verdicts.specs.declared.verdict.Verdict.{Verdict}
use Rattle.verdicts.specs.declared.verdict.Verdict.TheVariants as verdict
use Rattle.verdicts.specs.Instance.{FurtherRule, History, KeepsValid}
use Rattle.claims.specs.Headline.{Headline}
use Rattle.verdicts.specs.LineRules.{whole_rules}
use Rattle.verdicts.specs.Verdicts.{IsAcceptance, IsTextOver, SaysBy}
use Rattle.verdicts.proofs.SoundLemmas.{accepted-right-by}
use Rattle.verdicts.proofs.OneVerdict.{accepted-proofs, verdict-comes, verdict-once}

limits : (v : Version) (ps : List ProofTree) → AreProofsIn v ps → AreGroupsIn v (groups_of ps)
limits v [] fit = tt
limits v (p ∷ ps) fit = (fit.0.group, limits v ps fit.1)

-- a verdict of acceptance says that the functions are right
pub accepted-headline : (F : FurtherRule) → ((g : GroupTree) → KeepsValid F g) → (known : Known) → (version_of known).most_mems ≤ 1 → (file text : List ℕ) (v : Verdict) → SaysBy F (version_of known) file text v
    → IsAcceptance v → (ps : List ProofTree) → IsTextOver whole_lines (version_of known) text ps → Headline file (groups_of ps)
accepted-headline F keeps known few file text v h is ps t =
    accepted-right-by (version_of known) few F keeps file ps (limits (version_of known) ps t.fit) (accepted-proofs (lines_known known) (whole_rules F) file text v h is ps t)

-- ---- one verdict

one-left : (F : FurtherRule) (g : GroupTree) (before : List LineTree) (h : History) (l : LineTree) (a b : History) → (whole_rules F).Leaves g before h l a → (whole_rules F).Leaves g before h l b → a ≡ b
one-left F g before h l a b x y = x.1 ∙ sym y.1

pub whole-once : (F : FurtherRule) (known : Known) (file text : List ℕ) (v w : Verdict) → (v ≡ verdict.NoMemory → ⊥) → (w ≡ verdict.NoMemory → ⊥) → SaysBy F (version_of known) file text v → SaysBy F (version_of known) file text w
    → v ≡ w
whole-once F known = verdict-once (lines_known known) (whole_rules F) (one-left F)

pub whole-comes : (F : FurtherRule) (known : Known) (file text : List ℕ) (w : Verdict) → SaysBy F (version_of known) file text w → (v : Verdict) → SaysBy F (version_of known) file text v
    → (w ≡ v) ⊎ (v ≡ verdict.NoMemory) ⊎ (w ≡ verdict.NoMemory)
whole-comes F known = verdict-comes (lines_known known) (whole_rules F) (one-left F)
