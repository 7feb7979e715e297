-- What was judged of a text, line by line and group by group, whatever lines stand behind its groups. J are the rules of the lines.
use Rattle.std.specs.Prelude.{◌≡◌, ◌↔◌, ℕ, ◌+◌, Bool, true, false, IsTrue, IfSome, IsSomeAnd, List, [], ◌∷◌, ◌++◌, length, slice_get, take, Option, Some, None, Result, Ok, Err}
use Rattle.std.specs.List.{AllByRecursion}
use Rattle.rv_words.specs.declared.range.Range.{Range}
use Rattle.rv_words.specs.Ranges.{range_bytes}
use Rattle.elf_image.specs.Image.{code_of_file}
use Rattle.tailrec_lang.specs.declared.group.Group.{Group}
use Rattle.tailrec_lang.specs.Tree.{GroupTree, group_tree}
use Rattle.tailrec_lang.specs.WellFormed.{IsWellFormed, IsFirstIllFormed}
use Rattle.mc_text.specs.Fault.{IsBadAt}
use Rattle.group_text.specs.declared.version.Version.{Version as Known}
use Rattle.group_text.specs.Version.{Version, version_of}
use Rattle.proof_text.specs.Line.{ProofOf}
use Rattle.proof_text.specs.LineGrammar.{LineGrammar, text_over, texts_over}
use Rattle.proof_text.specs.FirstProofs.{AreReadOver, BeginsWithItems, HasGivenOver, MayOpen, Progress, ProofEnds, with_line}
use Rattle.proof_text.specs.Proofs.{bare}
use Rattle.proof_text.specs.Sources.{Both, EndsLines, GivesLine}
use Rattle.proof_text.specs.inner.LineReaders.{LineReaders}
use Rattle.verdicts.specs.declared.line_judge.Judged.{Judged}
use Rattle.verdicts.specs.declared.check.Tally.{Tally}
use Rattle.verdicts.specs.declared.verdict.Verdict.{Verdict}
use Rattle.verdicts.specs.declared.verdict.Verdict.TheVariants as verdict
use Rattle.verdicts.specs.Instance.{History, no_lines}
use Rattle.verdicts.specs.LineRules.{AllLeave, IsClosedFor, IsProvedOver, IsRightOver, LineRules, counted_in, count_over}
use Rattle.verdicts.specs.Verdicts.{IsOpenOver, IsTextOver}

abbrev pub proof_of : {L : Type 0} → GroupTree → List L → ProofOf L
proof_of g lines = record { group = g; lines = lines }

-- the text leaves the grammar of that version at that line, and nothing is read of it but these proofs and the first of them
pub record IsBadAfter (L : LineGrammar) (v : Version) (text : List ℕ) (n : ℕ) (ps : List (ProofOf L.Line)) : Type 0 where
  pub bad : IsBadAt (texts_over L v) text n
  pub no_more : (qs : List (ProofOf L.Line)) → AreReadOver L v text qs → BeginsWithItems ps qs

-- it is read of the same text, in the same version
abbrev pub IsSameText : Progress → Progress → Type 0
IsSameText new old = (new.text ≡ old.text) × (new.version ≡ old.version)

-- ---- a line

-- What is kept to read the next line may be that behind these, which may stand behind a group, and what is kept to judge it goes with
-- that.
pub record StandBehind (L : LineGrammar) (v : Version) (Behind : List L.Line → Type 0) (Goes : Type 0) (ls : List L.Line) : Type 0 where
  pub behind : Behind ls
  pub goes : Goes
  pub are : L.Are v ls

-- That line was read behind lines behind which it may stand, and what is kept to judge it goes with what was kept of these.
pub record MayFollow {S : Type 0} (R : LineReaders) (Behind : S → List R.grammar.Line → Type 0) (GoesWith : S → Type 0) (new : S) (l : R.grammar.Line) : Type 0 where
  pub old : S
  pub version : Version
  pub before : List R.grammar.Line
  pub goes : GoesWith old
  pub behind : Behind old before
  pub are : R.grammar.Are version before
  pub fits : R.Fits version before l
  pub read : Behind new (before ++ l ∷ [])

-- the line at that place of the text behind those, judged: whether it is counted, or that it is wrong
abbrev pub LineJudged : {L : LineGrammar} → LineRules L → GroupTree → List L.Line → History → L.Line → History → ℕ → Result (Option Bool) Verdict → Type 0
LineJudged J g before h l after place (Ok (Some counts)) = J.Leaves g before h l after × (counts ≡ J.counts l)
LineJudged J g before h l after place (Ok None) = ⊥
LineJudged J g before h l after place (Err (verdict.BadLine n)) = (n ≡ place) × ((next : History) → J.Leaves g before h l next → ⊥)
LineJudged J g before h l after place (Err verdict.NoMemory) = Unit {0}
LineJudged J g before h l after place (Err (verdict.Accepted functions lines)) = ⊥
LineJudged J g before h l after place (Err (verdict.BadElf why)) = ⊥
LineJudged J g before h l after place (Err (verdict.BadText n)) = ⊥
LineJudged J g before h l after place (Err (verdict.BadDef k d)) = ⊥
LineJudged J g before h l after place (Err (verdict.NotProved k)) = ⊥

-- The next line behind those, judged, where it is told how far the text was read before and after: whether there is one and it is
-- counted, or what is wrong. After says what is kept afterwards.
abbrev pub NextLine : {L : LineGrammar} → LineRules L → GroupTree → List L.Line → (h after : History) → (After : List L.Line → Type 0) → (old new : Option Progress) → Result (Option Bool) Verdict → Type 0
NextLine {L} J g before h after After o n (Ok (Some counts)) = (l : L.Line) × Both o n (GivesLine L g before l) × J.Leaves g before h l after × (counts ≡ J.counts l) × After (before ++ l ∷ [])
NextLine J g before h after After o n (Ok None) = Both o n EndsLines × (after ≡ h)
NextLine {L} J g before h after After o n (Err (verdict.BadLine k)) = (l : L.Line) × Both o n (λ old new. GivesLine L g before l old new × (k ≡ new.place)) × ((next : History) → J.Leaves g before h l next → ⊥)
NextLine {L} J g before h after After o n (Err (verdict.BadText k)) = IfSome o (λ r. (ps : List (ProofOf L.Line)) (p : ProofOf L.Line) → HasGivenOver L (ps ++ p ∷ []) r → p.group ≡ g → p.lines ≡ before → IsBadAfter L (version_of r.version) r.text k (ps ++ p ∷ []))
NextLine J g before h after After o n (Err verdict.NoMemory) = Unit {0}
NextLine J g before h after After o n (Err (verdict.Accepted functions lines)) = ⊥
NextLine J g before h after After o n (Err (verdict.BadElf why)) = ⊥
NextLine J g before h after After o n (Err (verdict.BadDef k d)) = ⊥
NextLine J g before h after After o n (Err (verdict.NotProved k)) = ⊥

-- ---- the lines of a group's proof

-- these lines of the group were given
pub record GivesLines (L : LineGrammar) (g : GroupTree) (lines : List L.Line) (old new : Progress) : Type 0 where
  pub text : IsSameText new old
  pub given : (ps : List (ProofOf L.Line)) → HasGivenOver L (ps ++ bare g ∷ []) old → HasGivenOver L (ps ++ proof_of g lines ∷ []) new

-- so far these lines were given, each of them is right, and so many are counted
pub record LinesSoFar {L : LineGrammar} (J : LineRules L) (g : GroupTree) (h : History) (Behind : List L.Line → Type 0) (old new : Option Progress) (count : ℕ) : Type 0 where
  pub lines : List L.Line
  pub behind : Behind lines
  pub right : AllLeave J g [] no_lines lines h
  pub counted : count ≡ counted_in J lines
  pub given : Both old new (GivesLines L g lines)

-- the lines stop at one that is wrong, or where the text is none
abbrev pub LinesStopped : {L : LineGrammar} → LineRules L → GroupTree → (old new : Option Progress) → Verdict → Type 0
LinesStopped {L} J g o n (verdict.BadLine k) = (lines : List L.Line) × (l : L.Line) × (after : History)
    × Both o n (λ old new. IsSameText new old × (k ≡ new.place) × ((ps : List (ProofOf L.Line)) → HasGivenOver L (ps ++ bare g ∷ []) old → HasGivenOver L (ps ++ with_line (proof_of g lines) l ∷ []) new))
    × AllLeave J g [] no_lines lines after × ((next : History) → J.Leaves g lines after l next → ⊥)
LinesStopped {L} J g o n (verdict.BadText k) = (lines : List L.Line) × (after : History) × AllLeave J g [] no_lines lines after
    × IfSome o (λ r. (ps : List (ProofOf L.Line)) → HasGivenOver L (ps ++ bare g ∷ []) r → IsBadAfter L (version_of r.version) r.text k (ps ++ proof_of g lines ∷ []))
LinesStopped J g o n verdict.NoMemory = Unit {0}
LinesStopped J g o n (verdict.Accepted functions lines) = ⊥
LinesStopped J g o n (verdict.BadElf why) = ⊥
LinesStopped J g o n (verdict.BadDef k d) = ⊥
LinesStopped J g o n (verdict.NotProved k) = ⊥

-- all lines were given, are right, and leave that: so many are counted
abbrev pub LinesJudged : {L : LineGrammar} → LineRules L → GroupTree → History → (old new : Option Progress) → Result ℕ Verdict → Type 0
LinesJudged {L} J g after o n (Ok count) = (lines : List L.Line) × Both o n (λ old new. GivesLines L g lines old new × ProofEnds new.rest) × AllLeave J g [] no_lines lines after × (count ≡ counted_in J lines)
LinesJudged J g after o n (Err v) = LinesStopped J g o n v

-- the code is all of a file's
abbrev pub IsCodeOf : List Range → List ℕ → Type 0
IsCodeOf code file = range_bytes code ≡ code_of_file file

-- what a group's proof comes to, where it is told how far the text was read before and after
abbrev pub ProofJudged : {L : LineGrammar} → LineRules L → GroupTree → List Range → (old new : Option Progress) → Result Judged Verdict → Type 0
ProofJudged {L} J g code o n (Ok j) = (lines : List L.Line) × (after : History) × Both o n (λ old new. GivesLines L g lines old new × ProofEnds new.rest) × AllLeave J g [] no_lines lines after
    × (j.lines ≡ counted_in J lines) × ((file : List ℕ) → IsCodeOf code file → (IsTrue j.proved ↔ IsClosedFor file g after))
ProofJudged J g code o n (Err v) = LinesStopped J g o n v

-- ---- a group

-- the next group, judged, or what is wrong
abbrev pub NextGroup : LineGrammar → ℕ → Progress → Progress → Result (Option Group) Verdict → Type 0
NextGroup L n old new (Ok None) = (ps : List (ProofOf L.Line)) → HasGivenOver L ps old → old.text ≡ text_over L (version_of old.version) ps
NextGroup L n old new (Ok (Some g)) = IsSameText new old × IsWellFormed (group_tree g) × ((ps : List (ProofOf L.Line)) → HasGivenOver L ps old → HasGivenOver L (ps ++ bare (group_tree g) ∷ []) new)
NextGroup L n old new (Err (verdict.BadDef m d)) = (m ≡ n) × (g : GroupTree) × IsFirstIllFormed g d × IsSameText new old × ((ps : List (ProofOf L.Line)) → HasGivenOver L ps old → HasGivenOver L (ps ++ bare g ∷ []) new)
NextGroup L n old new (Err (verdict.BadText line)) = (ps : List (ProofOf L.Line)) → HasGivenOver L ps old → MayOpen ps old.rest → IsBadAfter L (version_of old.version) old.text line ps
NextGroup L n old new (Err verdict.NoMemory) = Unit {0}
NextGroup L n old new (Err (verdict.Accepted functions lines)) = ⊥
NextGroup L n old new (Err (verdict.BadElf why)) = ⊥
NextGroup L n old new (Err (verdict.BadLine line)) = ⊥
NextGroup L n old new (Err (verdict.NotProved g)) = ⊥

-- ---- groups

-- which of them is the first that isn't proved, if there is one
abbrev pub ProvedSo : {L : LineGrammar} → LineRules L → List ℕ → List (ProofOf L.Line) → Option ℕ → Type 0
ProvedSo J file ps None = AllByRecursion (IsProvedOver J file) ps
ProvedSo J file ps (Some k) = AllByRecursion (IsProvedOver J file) (take k ps) × IsSomeAnd (slice_get ps k) (IsOpenOver J file)

-- the first group that isn't proved, with one group more
abbrev pub first_not_proved : Option ℕ → Bool → ℕ → Option ℕ
first_not_proved (Some k) proved n = Some k
first_not_proved None true n = None
first_not_proved None false n = Some n

abbrev pub with_group : Tally → Judged → Tally
with_group t j = record { groups = t.groups + 1; lines = t.lines + j.lines; not_proved = first_not_proved t.not_proved j.proved t.groups }

-- so far these proofs were given of a text, nothing is wrong in them, and they are counted
pub record GroupsJudged {L : LineGrammar} (J : LineRules L) (known : Known) (code : List Range) (text : List ℕ) (r : Progress) (t : Tally) : Type 0 where
  pub proofs : List (ProofOf L.Line)
  pub given : HasGivenOver L proofs r
  pub same : r.text ≡ text
  pub version : r.version ≡ known
  pub may_open : MayOpen proofs r.rest
  pub right : AllByRecursion (IsRightOver J) proofs
  pub groups : t.groups ≡ length proofs
  pub lines : t.lines ≡ count_over J proofs
  pub so : (file : List ℕ) → IsCodeOf code file → ProvedSo J file proofs t.not_proved

-- the text is that of proofs in which nothing is wrong, and they are counted
pub record TextJudged {L : LineGrammar} (J : LineRules L) (v : Version) (file text : List ℕ) (t : Tally) : Type 0 where
  pub proofs : List (ProofOf L.Line)
  pub spelled : IsTextOver L v text proofs
  pub right : AllByRecursion (IsRightOver J) proofs
  pub groups : t.groups ≡ length proofs
  pub lines : t.lines ≡ count_over J proofs
  pub so : ProvedSo J file proofs t.not_proved

-- the verdict on it
abbrev pub verdict_for : Option ℕ → ℕ → ℕ → Verdict
verdict_for None groups lines = verdict.Accepted groups lines
verdict_for (Some k) groups lines = verdict.NotProved k

abbrev pub verdict_of : Tally → Verdict
verdict_of t = verdict_for t.not_proved t.groups t.lines
