-- What is written for names of a file is accepted for it.
use Rattle.std.proofs.Common.{◌≡◌, ℕ, List, length, Option, Some, refl, sym, subst}
use Rattle.mc_shelf.specs.Shelf.{Contents}
use Rattle.elf_image.specs.Fault.{IsReadable}
use Rattle.group_text.specs.declared.version.Version.{Version as Known}
use Rattle.group_text.specs.declared.version.Version.TheVariants.{One, Three, Four}
use Rattle.group_text.specs.Version.{Version, version_1, version_3, version_4}
use Rattle.proof_text.specs.Line.{ProofTree}
use Rattle.proof_text.specs.Proofs.{AreProofsIn, text_of_proofs_in}
use Rattle.frame_compose.specs.Rules.{IsExchanged, IsSteered}
use Rattle.verdicts.specs.Instance.{FurtherRule, no_rule}
use Rattle.verdicts.specs.Accepts.{AcceptsBy}
use Rattle.verdicts.specs.LineRules.{count_over, whole_rules}
use Rattle.verdicts.specs.Verdicts.{IsAcceptedOver}
use Rattle.verdicts.specs.declared.verdict.Verdict.TheVariants as verdict
use Rattle.proof_v2.specs.Titles.{named_version}
use Rattle.proof_v2.specs.AnyVerdicts.{SaysIn, SaysOf}
use Rattle.path_walk.specs.declared.proof.Proof.{Proof}
use Rattle.decompiler.specs.Listing.{proofs_of}
use Rattle.mcdec_answers.specs.declared.command.Form.{Form}
use Rattle.mcdec_answers.specs.declared.command.Form.TheVariants.{Alone, Linked, Split}
use Rattle.mcdec_answers.specs.declared.answer.Answer.{Answer}
use Rattle.mcdec_commands.specs.DecompileAnswer.{AreItemsIn, IsTextFor, item_form, version_in}

named-one : (ps : List ProofTree) → named_version (text_of_proofs_in version_1 ps) ≡ One
named-one ps = refl

named-three : (ps : List ProofTree) → named_version (text_of_proofs_in version_3 ps) ≡ Three
named-three ps = refl

named-four : (ps : List ProofTree) → named_version (text_of_proofs_in version_4 ps) ≡ Four
named-four ps = refl

accepted-text : (F : FurtherRule) (v : Version) (file text : List ℕ) (ps : List ProofTree) → AreProofsIn v ps → text ≡ text_of_proofs_in v ps → AcceptsBy F file ps
    → IsAcceptedOver (whole_rules F) v file text (length ps) (count_over (whole_rules F) ps)
accepted-text F v file text ps fit spelled accepted = record { proofs = ps; spelled = record { fit = fit; spelled = spelled }; accepted = accepted; groups = refl; count = refl }

-- a text by its version
says-of : (k : Known) (file text : List ℕ) (functions lines : ℕ) → named_version text ≡ k → SaysIn k file text (verdict.Accepted functions lines) → SaysOf file text (verdict.Accepted functions lines)
says-of k file text functions lines e h = subst (λ (x : Known). SaysIn x file text (verdict.Accepted functions lines)) (sym e) h

-- what the laws of items say
pub record AreAcceptedItems : Type 0 where
  pub accepted : (form : Form) (file : List ℕ) (names : List (List ℕ)) (p : Proof) → IsReadable file → AreItemsIn form file names p → AcceptsBy (item_form form).rule file (proofs_of p)
  pub text : (form : Form) (file : List ℕ) (names : List (List ℕ)) (p : Proof) → AreItemsIn form file names p → AreProofsIn (version_in form) (proofs_of p)

-- .. one by one
pub in-each-form : (P : Form → Type 0) → P Alone → P Linked → P Split → (form : Form) → P form
in-each-form P alone linked split Alone = alone
in-each-form P alone linked split Linked = linked
in-each-form P alone linked split Split = split

module _ (law : AreAcceptedItems) where
  accepted-in : (form : Form) (file text : List ℕ) (names : List (List ℕ)) (p : Proof) → IsReadable file → AreItemsIn form file names p → text ≡ text_of_proofs_in (version_in form) (proofs_of p)
      → SaysOf file text (verdict.Accepted (length (proofs_of p)) (count_over (whole_rules no_rule) (proofs_of p)))
  accepted-in Alone file text names p readable items is =
      says-of One file text _ _ (subst (λ (t : List ℕ). named_version t ≡ One) (sym is) (named-one (proofs_of p)))
      (accepted-text no_rule version_1 file text (proofs_of p) (law.text Alone file names p items) is (law.accepted Alone file names p readable items))
  accepted-in Linked file text names p readable items is =
      says-of Three file text _ _ (subst (λ (t : List ℕ). named_version t ≡ Three) (sym is) (named-three (proofs_of p)))
      (accepted-text IsSteered version_3 file text (proofs_of p) (law.text Linked file names p items) is (law.accepted Linked file names p readable items))
  accepted-in Split file text names p readable items is =
      says-of Four file text _ _ (subst (λ (t : List ℕ). named_version t ≡ Four) (sym is) (named-four (proofs_of p)))
      (accepted-text IsExchanged version_4 file text (proofs_of p) (law.text Split file names p items) is (law.accepted Split file names p readable items))

  one-file : (x y : List ℕ) (held : Option (List ℕ)) → held ≡ Some x → held ≡ Some y → x ≡ y
  one-file x y held a b = cc

  pub written-accepted : (form : Form) (files : Contents) (elf : List ℕ) (names : List (List ℕ)) (a : Answer) (text file : List ℕ) → IsTextFor form files elf names a text → files elf ≡ Some file
      → (functions : ℕ) × (lines : ℕ) × SaysOf file text (verdict.Accepted functions lines)
  written-accepted form files elf names a text file w held =
      let same : w.file ≡ file = one-file w.file file (files elf) w.holds held in
      subst (λ (f : List ℕ). (functions : ℕ) × (lines : ℕ) × SaysOf f text (verdict.Accepted functions lines)) same
      (length (proofs_of w.proof), count_over (whole_rules no_rule) (proofs_of w.proof), accepted-in form w.file text names w.proof w.loaded.1 w.items w.spelled)
