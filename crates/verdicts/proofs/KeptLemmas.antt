-- What is accepted in version 4 is right.
use Rattle.std.proofs.Common.{ℕ, zero, suc, List, [], ◌∷◌, subst, arith}
use Rattle.std.specs.List.{AllByRecursion}
use Rattle.tailrec_lang.specs.Tree.{listed_def}
use Rattle.group_text.specs.Limits.{IsGroupIn}
use Rattle.group_text.specs.Version.{version_4}
use Rattle.group_text.specs.declared.version.Version.TheVariants.{Four}
use Rattle.proof_text.specs.Line.{ProofTree}
use Rattle.proof_text.specs.LineGrammar.{whole_lines}
use Rattle.proof_text.specs.Proofs.{AreProofsIn, groups_of}
use Rattle.proof_text.proofs.WholeLaws.{lines_known}
use Rattle.frame_compose.specs.Rules.{IsExchanged}
use Rattle.frame_compose.proofs.ExchangeLemmas.{valid_exchanged}
use Rattle.verdicts.specs.declared.verdict.Verdict.{Verdict}
use Rattle.verdicts.specs.Instance.{no_lines}
use Rattle.verdicts.specs.Accepts.{IsAcceptedBy}
use Rattle.verdicts.specs.LineRules.{whole_rules}
use Rattle.claims.specs.Headline.{Headline, IsRight}
use Rattle.verdicts.specs.Verdicts.{IsAcceptance, IsTextOver, SaysBy}
use Rattle.verdicts.proofs.SoundLemmas.{line-sound, no_lines-sound}
use Rattle.verdicts.specs.Addresses.{AllHave, KeepsAddresses}
use Rattle.verdicts.specs.Sound.{Sound}
use Rattle.verdicts.proofs.AddressLemmas.{keeps-exchange}
use Rattle.verdicts.proofs.Lines.{line-has, no_lines-have}
use Rattle.verdicts.proofs.RegionLemmas.{function-right-over}
use Rattle.verdicts.proofs.OneVerdict.{accepted-proofs}
use Rattle.verdicts.proofs.WholeLemmas.{lines-keep}

-- one proof that is accepted
proof-right : (file : List ℕ) (p : ProofTree) → IsGroupIn version_4 p.group → IsAcceptedBy IsExchanged file p → IsRight file p.group
proof-right file p limit is =
    let g = p.group in
    let sound = lines-keep IsExchanged g (Sound g) (line-sound g is.1.well_formed IsExchanged (valid_exchanged g)) [] no_lines (no_lines-sound g) p.lines is.0 is.1.lines in
    let kept = lines-keep IsExchanged g (AllHave (KeepsAddresses g) g) (line-has (KeepsAddresses g) IsExchanged g (keeps-exchange g)) [] no_lines (no_lines-have (KeepsAddresses g) g) p.lines is.0 is.1.lines in
    function-right-over file g is.1.well_formed limit.registers is.2.code (sound.closed (listed_def g) is.2.closed) (kept.closed (listed_def g) is.2.closed)

-- each of the proofs
proofs-right : (file : List ℕ) (ps : List ProofTree) → AreProofsIn version_4 ps → AllByRecursion (IsAcceptedBy IsExchanged file) ps → Headline file (groups_of ps)
proofs-right file [] fit each g c = absurd (omega (arith, c.1))
proofs-right file (p ∷ ps) fit each g (zero, lt, e) = subst (IsRight file) e (proof-right file p fit.0.group each.0)
proofs-right file (p ∷ ps) fit each g (suc k, lt, e) = proofs-right file ps fit.1 each.1 g (k, omega (arith, lt), e)

-- a verdict of acceptance says that the functions are right
pub accepted-headline : (file text : List ℕ) (v : Verdict) → SaysBy IsExchanged version_4 file text v
    → IsAcceptance v → (ps : List ProofTree) → IsTextOver whole_lines version_4 text ps → Headline file (groups_of ps)
accepted-headline file text v h is ps t = proofs-right file ps t.fit ((accepted-proofs (lines_known Four) (whole_rules IsExchanged) file text v h is ps t).each)
