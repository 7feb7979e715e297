-- When lines of version 2 are right, and for which proofs of version 1 those of version 2 stand.
use Rattle.std.specs.Prelude.{◌≡◌, ℕ, Bool, true, false, List}
use Rattle.std.specs.List.{AllByRecursion, AllZip}
use Rattle.tailrec_lang.specs.Tree.{GroupTree}
use Rattle.proof_text.specs.Line.{ProofTree}
use Rattle.proof_text.specs.Proofs.{AreProofs}
use Rattle.verdicts.specs.Accepts.{IsAccepted}
use Rattle.verdicts.specs.Instance.{History}
use Rattle.verdicts.specs.LineRules.{LineRules}
use Rattle.short_text.specs.declared.short.ShortLine.{ShortLine}
use Rattle.short_text.specs.declared.short.ShortLine.TheVariants.{Term, Proof}
use Rattle.short_text.specs.FullLine.{IsFullLine}
use Rattle.short_text.specs.ShortProofs.{ShortProof, proof_lines, short_lines, table_of}
use Rattle.checker.specs.Short.{LeavesBehind}

-- a term leaves what was left before it; a line of the proof is one over the table
abbrev pub LeavesOver : GroupTree → List ShortLine → History → ShortLine → History → Type 0
LeavesOver g before h (Term n) next = next ≡ h
LeavesOver g before h (Proof s) next = LeavesBehind g h (table_of before) s next

-- terms aren't counted as lines of the proof
abbrev pub is_proof_line : ShortLine → Bool
is_proof_line (Term n) = false
is_proof_line (Proof s) = true

abbrev pub short_rules : LineRules short_lines
short_rules = record { Leaves = LeavesOver; counts = is_proof_line }

-- ---- proofs of version 1

-- of the same group, with as many lines, for which those of the short proof stand
pub record IsFullProof (p : ShortProof) (full : ProofTree) : Type 0 where
  pub group : full.group ≡ p.group
  pub lines : AllZip (IsFullLine (table_of p.lines)) (proof_lines p.lines) full.lines

-- there are proofs of version 1 for which these stand, which have a text and are accepted for the file
pub record AreFullAccepted (file : List ℕ) (ps : List ShortProof) : Type 0 where
  pub full : List ProofTree
  pub stand : AllZip IsFullProof ps full
  pub fit : AreProofs full
  pub accepted : AllByRecursion (IsAccepted file) full
