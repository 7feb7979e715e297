-- The line by which a way goes on at an address has a text.
use Rattle.std.proofs.Common.{◌≡◌, ◌∙◌, ℕ, ◌<◌, ◌≤◌, ◌^◌, List, [], ◌∷◌, ◌++◌, sym, subst, arith}
use Rattle.std.specs.List.{AllByRecursion}
use Rattle.rv_words.specs.declared.range.Range.{Range}
use Rattle.rv_words.specs.Ranges.{AreRanges}
use Rattle.rv_words.specs.declared.comparison.Cmp.TheVariants.{Eq}
use Rattle.word_terms.specs.Tree.{Compare, Const, Var, WordTree}
use Rattle.tailrec_lang.specs.Registers.{AreRegistersFrom}
use Rattle.triple_kernel.specs.Tree.{FactTree, So, TripleTree}
use Rattle.proof_text.specs.LineLimits.{IsFact, IsTriple}
use Rattle.code_parts.specs.Bodies.{Flow, VariableMap, start}
use Rattle.path_walk.specs.inner.Writers.{CitedTree, IsFineCited, OriginTree, front, standing_at, standing_on}
use Rattle.path_walk.proofs.LineTexts.{all-join, front-low, standing-fine}
use Rattle.path_walk.proofs.PartLimits.{IsLow}

-- a triple from the front of a definition
pub from_front : (f : Flow) (entry : ℕ) (o : OriginTree) → o ≡ front f entry → (facts : List FactTree) (code : List Range) (pc : WordTree) (u : VariableMap) (t : TripleTree) →
    t ≡ record { facts = facts; pre = standing_on f o (Const o.entry) o.place; code = code; post = standing_on f o pc u } →
    t ≡ record { facts = facts; pre = standing_at f (Const entry) (start f); code = code; post = standing_at f pc u }
from_front f entry o is facts code pc u t same = same ∙ (λ j. record { facts = facts; pre = standing_on f (is j) (Const (is j).entry) (is j).place; code = code; post = standing_on f (is j) pc u })

module _ (f : Flow) (rise : AreRegistersFrom 1 f.regs) (few_mems : f.mems ≤ 2) (t : CitedTree) (fine : IsFineCited t) (w back : ℕ) (low : w < 2 ^ 32) (low_back : back < 2 ^ 64)
    (facts : List FactTree) (are : facts ≡ t.facts ++ So (Compare Eq (Var w) (Const back)) ∷ []) (code : List Range) (same : code ≡ t.code) where
  more-fine : AllByRecursion IsFact facts
  more-fine = subst (AllByRecursion IsFact) (sym are) (all-join IsFact t.facts (So (Compare Eq (Var w) (Const back)) ∷ []) fine.facts ((low, low_back), tt))

  ranges-fine : AreRanges code
  ranges-fine = subst AreRanges (sym same) fine.code

  bytes-fine : AllByRecursion (λ r. AllByRecursion (λ b. b < 256) r.bytes) code
  bytes-fine = subst (λ (rs : List Range). AllByRecursion (λ r. AllByRecursion (λ b. b < 256) r.bytes) rs) (sym same) fine.bytes

  pub steered-fine : (entry : ℕ) → entry < 2 ^ 64 → (u : VariableMap) (n : ℕ) → IsLow f.mems u n → n < 2 ^ 16 →
      IsTriple (record { facts = facts; pre = standing_at f (Const entry) (start f); code = code; post = standing_at f (Const back) u })
  steered-fine entry low_entry u n small few = record {
    facts = more-fine;
    pre = standing-fine f.mems (start f) 31 (front-low f rise few_mems) (omega arith) f.regs (Const entry) rise low_entry;
    code = ranges-fine;
    bytes = bytes-fine;
    post = standing-fine f.mems u n small few f.regs (Const back) rise low_back;
  }

  pub steered-standing-fine : (k : ℕ) → k < 2 ^ 64 → IsFineCited (record { number = k; facts = facts; code = code })
  steered-standing-fine k small = record { number = small; facts = more-fine; code = ranges-fine; bytes = bytes-fine }
