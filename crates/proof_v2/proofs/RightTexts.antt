-- What is read of a text in which all lines are right.
use Rattle.std.proofs.Common.{ℕ, zero, suc, List, [], ◌∷◌, ◌++◌, subst}
use Rattle.std.specs.List.{AllByRecursion}
use Rattle.mc_text.specs.Fault.{IsBadAt}
use Rattle.group_text.specs.declared.version.Version.TheVariants.{One}
use Rattle.group_text.specs.Version.{version_1}
use Rattle.proof_text.specs.Line.{LineTree, ProofTree}
use Rattle.proof_text.specs.Proofs.{texts_of_proofs_in}
use Rattle.proof_text.specs.FirstProofs.{AreReadIn, with_line}
use Rattle.proof_text.proofs.Fronts.{text-front}
use Rattle.proof_text.proofs.WholeLaws.{lines_known}
use Rattle.verdicts.specs.Instance.{History, Instance, after_lines, no_lines, no_rule}
use Rattle.verdicts.specs.LineRules.{IsRightOver, whole_rules}
use Rattle.verdicts.proofs.FirstLemmas.{all-last, begins-first, first-right, last-leave}
use Rattle.verdicts.proofs.WholeLemmas.{lines-left}
use Rattle.proof_v2.specs.inner.Rewriting.{IsRightText}

-- no line of it is bad
pub not-bad : (text : List ℕ) (n : ℕ) → IsRightText text → IsBadAt (texts_of_proofs_in version_1) text n → ⊥
not-bad text zero r bad = bad
not-bad text (suc n) r bad = bad.0 (r.proofs, r.spelled.fit, r.spelled.spelled)

-- what was read so far is right
so-right : (text : List ℕ) (qs : List ProofTree) → IsRightText text → AreReadIn version_1 text qs → AllByRecursion (IsRightOver (whole_rules no_rule)) qs
so-right text qs t read = first-right (whole_rules no_rule) qs t.proofs (begins-first qs t.proofs (text-front (lines_known One) text t.proofs qs t.spelled.fit t.spelled.spelled read)) t.right

-- .. so its last line is
pub line-right : (text : List ℕ) (ps : List ProofTree) (p : ProofTree) (l : LineTree) → IsRightText text → AreReadIn version_1 text (ps ++ with_line p l ∷ []) → Instance p.group (after_lines p.lines) l
line-right text ps p l t read =
    let right = all-last (IsRightOver (whole_rules no_rule)) ps (with_line p l) (so-right text (ps ++ with_line p l ∷ []) t read) in
    let last = last-leave (whole_rules no_rule) p.group [] no_lines p.lines l right.0 right.1.lines in
    subst (λ (h : History). Instance p.group h l) (lines-left no_rule p.group [] no_lines p.lines last.0 last.2) last.3.0
