-- What lines that state whole triples leave, and which proofs with them are accepted.
use Rattle.std.proofs.Common.{◌≡◌, ℕ, true, List, [], ◌∷◌, ◌++◌, fold, refl, sym, ap, subst, ◌∙◌}
use Rattle.elf_image.specs.Image.{code_of_file}
use Rattle.rv_words.specs.Ranges.{range_bytes}
use Rattle.sep_assert.specs.Code.{IsWithin}
use Rattle.tailrec_lang.specs.Tree.{GroupTree, listed_def}
use Rattle.tailrec_lang.specs.WellFormed.{IsWellFormed}
use Rattle.proof_text.specs.Line.{LineTree, ProofTree}
use Rattle.verdicts.specs.Accepts.{IsAcceptedBy}
use Rattle.verdicts.specs.Instance.{AreInstancesBy, FurtherRule, History, InstanceBy, after_line, after_lines, no_lines}
use Rattle.verdicts.specs.LineRules.{AllLeave, whole_rules}

module _ (F : FurtherRule) (g : GroupTree) where
  -- what each line keeps, the lines keep
  pub lines-keep : (P : History → Type 0) → ((h : History) → P h → (l : LineTree) → InstanceBy F g h l → P (after_line h l)) → (before : List LineTree) (h : History) → P h → (ls : List LineTree) (after : History)
      → AllLeave (whole_rules F) g before h ls after → P after
  lines-keep P keeps before h so [] after all = subst P (sym all) so
  lines-keep P keeps before h so (l ∷ ls) after all = lines-keep P keeps (before ++ l ∷ []) all.0 (subst P (sym all.1.1) (keeps h so l all.1.0)) ls after all.2

  -- they leave one history
  pub lines-left : (before : List LineTree) (h : History) (ls : List LineTree) (after : History) → AllLeave (whole_rules F) g before h ls after → after ≡ fold after_line h ls
  lines-left before h [] after all = all
  lines-left before h (l ∷ ls) after all = lines-left (before ++ l ∷ []) all.0 ls after all.2 ∙ ap (λ (x : History). fold after_line x ls) all.1.1

  lines-leave : (before : List LineTree) (h : History) (ls : List LineTree) → AreInstancesBy F g h ls → AllLeave (whole_rules F) g before h ls (fold after_line h ls)
  lines-leave before h [] all = refl
  lines-leave before h (l ∷ ls) all = (after_line h l, (all.0, refl), lines-leave (before ++ l ∷ []) (after_line h l) ls all.1)

-- lines that are right one after the other, behind which the group is closed
pub accepted-by : (F : FurtherRule) (file : List ℕ) (p : ProofTree) → IsWellFormed p.group → AreInstancesBy F p.group no_lines p.lines → (after_lines p.lines).closed (listed_def p.group) ≡ true
    → IsWithin (range_bytes p.group.code) (code_of_file file) → IsAcceptedBy F file p
accepted-by F file p well_formed lines closed code =
    (after_lines p.lines, record { well_formed = well_formed; lines = lines-leave F p.group [] no_lines p.lines lines }, record { closed = closed; code = code })
