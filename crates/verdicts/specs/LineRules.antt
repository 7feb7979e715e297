-- When lines behind groups are right, whatever lines these are, and which proofs with them are accepted for a file.
use Rattle.std.specs.Prelude.{◌≡◌, ℕ, Bool, true, if◌then◌else◌, List, [], ◌∷◌, ◌++◌, sum_by}
use Rattle.std.specs.List.{AllByRecursion}
use Rattle.elf_image.specs.Fault.{IsReadable}
use Rattle.elf_image.specs.Image.{code_of_file}
use Rattle.rv_words.specs.Ranges.{range_bytes}
use Rattle.sep_assert.specs.Code.{IsWithin}
use Rattle.tailrec_lang.specs.Tree.{GroupTree, listed_def}
use Rattle.tailrec_lang.specs.WellFormed.{IsWellFormed}
use Rattle.proof_text.specs.Line.{ProofOf}
use Rattle.proof_text.specs.LineGrammar.{LineGrammar, whole_lines}
use Rattle.verdicts.specs.Instance.{FurtherRule, History, InstanceBy, after_line, no_lines}

pub record LineRules (L : LineGrammar) : Type 1 where
  -- in the proof of a group, behind these lines, which left that history behind them, the line is right, and leaves this one
  pub Leaves : GroupTree → List L.Line → History → L.Line → History → Type 0
  -- whether it is counted as a line of the proof
  pub counts : L.Line → Bool

-- lines that state whole triples, with that further rule
abbrev pub whole_rules : FurtherRule → LineRules whole_lines
whole_rules F = record { Leaves = λ g before h l next. InstanceBy F g h l × (next ≡ after_line h l); counts = λ l. true }

-- each of these lines is right behind those before it, and that is left behind them
abbrev pub AllLeave : {L : LineGrammar} → LineRules L → GroupTree → (before : List L.Line) → History → (lines : List L.Line) → History → Type 0
AllLeave J g before h [] after = after ≡ h
AllLeave J g before h (l ∷ ls) after = (next : History) × J.Leaves g before h l next × AllLeave J g (before ++ l ∷ []) next ls after

-- The group is well-formed, each line of its proof is right behind those before it, and they leave that behind them.
pub record IsRightTo {L : LineGrammar} (J : LineRules L) (p : ProofOf L.Line) (after : History) : Type 0 where
  pub well_formed : IsWellFormed p.group
  pub lines : AllLeave J p.group [] no_lines p.lines after

-- nothing is wrong in it
abbrev pub IsRightOver : {L : LineGrammar} → LineRules L → ProofOf L.Line → Type 0
IsRightOver J p = (after : History) × IsRightTo J p after

-- The group's last definition is closed there, and its code is the file's.
pub record IsClosedFor (file : List ℕ) (g : GroupTree) (h : History) : Type 0 where
  pub closed : h.closed (listed_def g) ≡ true
  pub code : IsWithin (range_bytes g.code) (code_of_file file)

-- nothing is wrong in it, and behind its lines the group is closed for the file
abbrev pub IsProvedOver : {L : LineGrammar} → LineRules L → List ℕ → ProofOf L.Line → Type 0
IsProvedOver J file p = (after : History) × IsRightTo J p after × IsClosedFor file p.group after

-- the file can be read, and each of these proofs is proved for it
pub record AcceptsOver {L : LineGrammar} (J : LineRules L) (file : List ℕ) (ps : List (ProofOf L.Line)) : Type 0 where
  pub readable : IsReadable file
  pub each : AllByRecursion (IsProvedOver J file) ps

-- how many of them are counted
abbrev pub counted_in : {L : LineGrammar} → LineRules L → List L.Line → ℕ
counted_in {L} J ls = sum_by (λ (l : L.Line). if J.counts l then 1 else 0) ls

abbrev pub count_over : {L : LineGrammar} → LineRules L → List (ProofOf L.Line) → ℕ
count_over {L} J ps = sum_by (λ (p : ProofOf L.Line). counted_in J p.lines) ps
