-- What each verdict says of a file and a text of groups, whatever lines stand behind them. Faults are told in this order: that of
-- the file; then, from the front of the text, that of a group's definitions when it is read and that of a line when it is read; at
-- last what isn't proved.
use Rattle.std.specs.Prelude.{◌≡◌, ℕ, List, [], ◌∷◌, ◌++◌, Some, IsSomeAnd, length, slice_get, take}
use Rattle.std.specs.List.{AllByRecursion}
use Rattle.mc_text.specs.Fault.{newlines, IsBadAt}
use Rattle.elf_image.specs.Fault.{IsReadable, fault_of}
use Rattle.tailrec_lang.specs.Tree.{GroupTree}
use Rattle.tailrec_lang.specs.WellFormed.{IsFirstIllFormed}
use Rattle.group_text.specs.Version.{Version, version_1}
use Rattle.proof_text.specs.Line.{ProofOf, ProofTree}
use Rattle.proof_text.specs.LineGrammar.{LineGrammar, AreProofsOver, text_over, texts_over, whole_lines}
use Rattle.proof_text.specs.Proofs.{bare}
use Rattle.proof_text.specs.FirstProofs.{AreReadOver, passed_over, with_line}
use Rattle.verdicts.specs.declared.verdict.Verdict.{Verdict}
use Rattle.verdicts.specs.declared.verdict.Verdict.TheVariants as verdict
use Rattle.verdicts.specs.Instance.{FurtherRule, History, no_rule}
use Rattle.verdicts.specs.LineRules.{AcceptsOver, IsClosedFor, IsProvedOver, IsRightOver, IsRightTo, LineRules, count_over, whole_rules}

-- the text is that of these proofs
pub record IsTextOver (L : LineGrammar) (v : Version) (text : List ℕ) (ps : List (ProofOf L.Line)) : Type 0 where
  pub fit : AreProofsOver L v ps
  pub spelled : text ≡ text_over L v ps

-- Definition d of a group is the first that isn't well-formed, after g groups, in all of which nothing is wrong.
pub record IsBadDefOver {L : LineGrammar} (J : LineRules L) (v : Version) (text : List ℕ) (g d : ℕ) : Type 0 where
  pub before : List (ProofOf L.Line)
  pub group : GroupTree
  pub read : AreReadOver L v text (before ++ bare group ∷ [])
  pub right : AllByRecursion (IsRightOver J) before
  pub number : g ≡ length before
  pub first : IsFirstIllFormed group d

-- Line n of the text is a line that isn't right behind those before it, whatever it would leave. In those nothing is wrong.
pub record IsBadLineOver {L : LineGrammar} (J : LineRules L) (v : Version) (text : List ℕ) (n : ℕ) : Type 0 where
  pub before : List (ProofOf L.Line)
  pub last : ProofOf L.Line
  pub line : L.Line
  pub after : History
  pub read : AreReadOver L v text (before ++ with_line last line ∷ [])
  pub right : AllByRecursion (IsRightOver J) before
  pub so_far : IsRightTo J last after
  pub number : n ≡ newlines (passed_over L v (before ++ with_line last line ∷ []))
  pub wrong : (next : History) → J.Leaves last.group last.lines after line next → ⊥

-- Nothing is wrong in it, but what its lines leave isn't closed for the file.
abbrev pub IsOpenOver : {L : LineGrammar} → LineRules L → List ℕ → ProofOf L.Line → Type 0
IsOpenOver J file p = (after : History) × IsRightTo J p after × (IsClosedFor file p.group after → ⊥)

-- Group g is the first that isn't proved, in a text in which nothing else is wrong.
pub record IsNotProvedOver {L : LineGrammar} (J : LineRules L) (v : Version) (file text : List ℕ) (g : ℕ) : Type 0 where
  pub proofs : List (ProofOf L.Line)
  pub spelled : IsTextOver L v text proofs
  pub right : AllByRecursion (IsRightOver J) proofs
  pub before : AllByRecursion (IsProvedOver J file) (take g proofs)
  pub here : IsSomeAnd (slice_get proofs g) (IsOpenOver J file)

-- Line n is the first with which the text is none of groups and such lines, and before it nothing is wrong.
pub record IsBadTextOver {L : LineGrammar} (J : LineRules L) (v : Version) (text : List ℕ) (n : ℕ) : Type 0 where
  pub bad : IsBadAt (texts_over L v) text n
  pub right : (ps : List (ProofOf L.Line)) → AreReadOver L v text ps → AllByRecursion (IsRightOver J) ps

-- the text is that of so many groups with so many lines, which are accepted for the file
pub record IsAcceptedOver {L : LineGrammar} (J : LineRules L) (v : Version) (file text : List ℕ) (functions lines : ℕ) : Type 0 where
  pub proofs : List (ProofOf L.Line)
  pub spelled : IsTextOver L v text proofs
  pub accepted : AcceptsOver J file proofs
  pub groups : functions ≡ length proofs
  pub count : lines ≡ count_over J proofs

-- what a verdict says of a text of that version, whose lines are right by those rules
abbrev pub SaysOver : {L : LineGrammar} → LineRules L → Version → (file text : List ℕ) → Verdict → Type 0
SaysOver J v file text (verdict.Accepted functions lines) = IsAcceptedOver J v file text functions lines
SaysOver J v file text (verdict.BadElf why) = fault_of file ≡ Some why
SaysOver J v file text (verdict.BadText n) = IsReadable file × IsBadTextOver J v text n
SaysOver J v file text (verdict.BadDef g d) = IsReadable file × IsBadDefOver J v text g d
SaysOver J v file text (verdict.BadLine n) = IsReadable file × IsBadLineOver J v text n
SaysOver J v file text (verdict.NotProved g) = IsReadable file × IsNotProvedOver J v file text g
SaysOver J v file text verdict.NoMemory = Unit {0}

-- whether it is a verdict of acceptance
abbrev pub IsAcceptance : Verdict → Type 0
IsAcceptance (verdict.Accepted functions lines) = Unit {0}
IsAcceptance _ = ⊥

-- ---- lines that state whole triples

-- what a verdict says of a text of that version with such lines and that further rule
abbrev pub SaysBy : FurtherRule → Version → (file text : List ℕ) → Verdict → Type 0
SaysBy F v file text w = SaysOver (whole_rules F) v file text w

-- ---- in version 1, which has no further rule

abbrev pub IsTextOf : (text : List ℕ) (ps : List ProofTree) → Type 0
IsTextOf text ps = IsTextOver whole_lines version_1 text ps

abbrev pub Says : (file text : List ℕ) → Verdict → Type 0
Says file text w = SaysOver (whole_rules no_rule) version_1 file text w
