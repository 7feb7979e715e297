-- When a line of a proof is right after the lines before it.
use Rattle.std.specs.Prelude.{◌≡◌, ℕ, ◌+◌, ◌==◌, ◌<◌, ◌^◌, map, Bool, true, false, if◌then◌else◌, List, [], ◌∷◌, fold, Option, Some, None, is_some, IsSomeAnd}
use Rattle.word_terms.specs.Substitution.{Substitution, listed}
use Rattle.word_terms.specs.Tree.{WordTree, MemTree}
use Rattle.tailrec_lang.specs.Tree.{GroupTree}
use Rattle.triple_kernel.specs.Tree.{TripleTree}
use Rattle.triple_kernel.specs.Valid.{Valid}
use Rattle.triple_kernel.specs.Rules.{IsInst, IsStrengthened, IsWeakened, IsDischarged}
use Rattle.instr_axioms.specs.Axiom.{axiom_of}
use Rattle.loop_rule.specs.Rule.{IsClosedBy, IsExit}
use Rattle.proof_text.specs.Line.{RuleTree, Axiom, Inst, Frame, Compose, ExtendCode, Strengthen, Weaken, Discharge, UseExit, LineTree, States, Loop, Forget, Further}
use Rattle.frame_compose.specs.Rules.{IsFramed, IsExtended, IsComposed}

-- what lines leave behind them: the number of the next theorem, the theorem of each number, if it exists and wasn't
-- forgotten, and whether a definition is closed
pub record History : Type 0 where
  pub next : ℕ
  pub theorem : ℕ → Option TripleTree
  pub closed : ℕ → Bool

abbrev pub no_lines : History
no_lines = record { next = 0; theorem = λ k. None; closed = λ d. false }

-- one more theorem, one less, and one more closed definition
abbrev pub with_theorem : TripleTree → History → History
with_theorem t h = record h { next = h.next + 1; theorem = λ k. if k == h.next then Some t else h.theorem k }

abbrev pub without : ℕ → History → History
without j h = record h { theorem = λ k. if k == j then None else h.theorem k }

abbrev pub with_closed : ℕ → History → History
with_closed d h = record h { closed = λ c. if c == d then true else h.closed c }

abbrev pub after_line : History → LineTree → History
after_line h (States rule stated) = with_theorem stated h
after_line h (Loop def cited) = with_closed def h
after_line h (Forget k) = without k h
after_line h (Further p stated) = with_theorem stated h

abbrev pub after_lines : List LineTree → History
after_lines lines = fold after_line no_lines lines

-- the substitution that lists of terms are
abbrev pub put_for : List (ℕ × WordTree) → List (ℕ × MemTree) → Substitution
put_for words mems = record { word = listed words; mem = listed mems }

-- the stated triple meets the row of the rule
abbrev pub Meets : GroupTree → History → RuleTree → TripleTree → Type 0
Meets g h (Axiom address word form) t = (address < 2 ^ 64) × (word < 2 ^ 32) × (axiom_of address word form ≡ Some t)
Meets g h (Inst p words mems) t = IsSomeAnd (h.theorem p) (λ p. IsInst (put_for words mems) p t)
Meets g h (Frame p) t = IsSomeAnd (h.theorem p) (λ p. IsFramed p t)
Meets g h (Compose p q) t = IsSomeAnd (h.theorem p) (λ p. IsSomeAnd (h.theorem q) (λ q. IsComposed p q t))
Meets g h (ExtendCode p) t = IsSomeAnd (h.theorem p) (λ p. IsExtended p t)
Meets g h (Strengthen p) t = IsSomeAnd (h.theorem p) (λ p. IsStrengthened p t)
Meets g h (Weaken p) t = IsSomeAnd (h.theorem p) (λ p. IsWeakened p t)
Meets g h (Discharge p) t = IsSomeAnd (h.theorem p) (λ p. IsDischarged p t)
Meets g h (UseExit def exit) t = (h.closed def ≡ true) × IsExit g def exit t

-- when a triple is stated from another by the further rule of a text
abbrev pub FurtherRule : Type 1
FurtherRule = TripleTree → TripleTree → Type 0

-- what it states from a valid triple is valid
abbrev pub KeepsValid : FurtherRule → GroupTree → Type 0
KeepsValid F g = (p t : TripleTree) → F p t → Valid g p → Valid g t

-- the line is right after those that left this behind them, in a text with that further rule
abbrev pub InstanceBy : FurtherRule → GroupTree → History → LineTree → Type 0
InstanceBy F g h (States rule stated) = Meets g h rule stated
InstanceBy F g h (Loop def cited) = IsClosedBy g def (map h.theorem cited)
InstanceBy F g h (Forget k) = is_some (h.theorem k) ≡ true
InstanceBy F g h (Further p stated) = IsSomeAnd (h.theorem p) (λ p. F p stated)

-- each line is right after those before it
abbrev pub AreInstancesBy : FurtherRule → GroupTree → History → List LineTree → Type 0
AreInstancesBy F g h [] = Unit {0}
AreInstancesBy F g h (l ∷ ls) = InstanceBy F g h l × AreInstancesBy F g (after_line h l) ls

-- ---- where there is no further rule

abbrev pub no_rule : FurtherRule
no_rule p t = ⊥

abbrev pub Instance : GroupTree → History → LineTree → Type 0
Instance g h l = InstanceBy no_rule g h l

abbrev pub AreInstances : GroupTree → History → List LineTree → Type 0
AreInstances g h ls = AreInstancesBy no_rule g h ls
