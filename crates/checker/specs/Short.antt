-- When a short line is right after the lines before it, and what it leaves behind it.
use Rattle.std.specs.Prelude.{◌≡◌, ℕ, ◌<◌, ◌^◌, IfSome, IsSomeAnd, List, [], ◌∷◌, Some, fold}
use Rattle.std.specs.List.{AllByRecursion, AllZip}
use Rattle.mc_text.specs.Number.{IsNumber}
use Rattle.tailrec_lang.specs.Tree.{GroupTree}
use Rattle.triple_kernel.specs.Tree.{TripleTree}
use Rattle.term_arena.specs.declared.node.Node.{Node}
use Rattle.group_text.specs.TermLimits.{IsWord, IsMem}
use Rattle.group_text.specs.Limits.{index_limit}
use Rattle.held_instances.specs.Image.{IsSubAt}
use Rattle.proof_text.specs.Line.{LineTree, RuleTree, States}
use Rattle.proof_text.specs.LineLimits.{AreRisingFrom, IsLine, IsTriple}
use Rattle.proof_text.specs.inner.OwnCode.{IsOwnCode}
use Rattle.short_text.specs.declared.short.Short.{Short}
use Rattle.short_text.specs.declared.short.Short.TheVariants as short
use Rattle.short_text.specs.FullLine.{IsFullLine, HasFurther, words_for, mems_for}
use Rattle.verdicts.specs.Instance.{AreInstances, History, Instance, after_line}
use Rattle.held_definitions.specs.Theorems.{Theorems, held_by_number}
use Rattle.derived_triples.specs.Fine.{AreFineFacts, AreFineMems, AreFineRegisters, IsFineHeld, IsFineSide}

-- ---- the line for which it stands

-- a frame's triple has just the listed registers and memories besides those of the theorem that is cited
abbrev pub HasFurtherAfter : History → List Node → Short → LineTree → Type 0
HasFurtherAfter h ns (short.Frame p regs mems) (States rule t) = IsSomeAnd (h.theorem p) (λ q. HasFurther ns (short.Frame p regs mems) q t)
HasFurtherAfter h ns s l = Unit {0}

-- the short line stands for that line of version 1, which is within the limits and right after those that left this behind them
pub record IsRightFor (g : GroupTree) (h : History) (ns : List Node) (s : Short) (l : LineTree) : Type 0 where
  pub full : IsFullLine ns s l
  pub further : HasFurtherAfter h ns s l
  pub fits : IsLine l
  pub right : Instance g h l

-- the short line is right
abbrev pub IsShortInstance : GroupTree → History → List Node → Short → Type 0
IsShortInstance g h ns s = (l : LineTree) × IsRightFor g h ns s l

-- .. and that is left behind it
abbrev pub LeavesBehind : GroupTree → History → List Node → Short → History → Type 0
LeavesBehind g h ns s after = (l : LineTree) × IsRightFor g h ns s l × (after ≡ after_line h l)

-- the triple is one that the line states
abbrev pub IsStatedBy : GroupTree → History → List Node → Short → TripleTree → Type 0
IsStatedBy g h ns s t = (rule : RuleTree) × IsRightFor g h ns s (States rule t)

-- it states no triple that is right
abbrev pub IsNeverStated : GroupTree → History → List Node → Short → Type 0
IsNeverStated g h ns s = (t : TripleTree) → IsStatedBy g h ns s t → ⊥

-- what lines leave, one after the other
abbrev pub LeaveAfter : GroupTree → History → List Node → List Short → History → Type 0
LeaveAfter g h ns [] after = after ≡ h
LeaveAfter g h ns (s ∷ ss) after = (next : History) × LeavesBehind g h ns s next × LeaveAfter g next ns ss after

-- there are lines of version 1 for which they stand, each right after those before it and within the limits, and these leave the same
pub record AreFullLines (g : GroupTree) (h : History) (ns : List Node) (lines : List Short) (after : History) : Type 0 where
  pub full : List LineTree
  pub stand : AllZip (IsFullLine ns) lines full
  pub right : AreInstances g h full
  pub fit : AllByRecursion IsLine full
  pub left : after ≡ fold after_line h full

-- each theorem is within the limits of version 1
pub record AreWithin (h : History) : Type 0 where
  pub each : (k : ℕ) (t : TripleTree) → h.theorem k ≡ Some t → IsTriple t

-- .. and its numbers are there
abbrev pub AreFineAt : List Node → Theorems → Type 0
AreFineAt ns held = (k : ℕ) → IfSome (held_by_number held k) (λ h. IsFineHeld ns h)

-- ---- what may be derived

-- the numbers of the line are there, and what they stand for is within the limits of version 1
abbrev pub IsFineShort : List Node → Short → Type 0
IsFineShort ns (short.Axiom a word form) = (a < 2 ^ 64) × (word < 2 ^ 32)
IsFineShort ns (short.Inst p words mems) = IsNumber p × IsSubAt ns words mems × AreRisingFrom IsWord 0 (words_for ns words) × AreRisingFrom IsMem 0 (mems_for ns mems)
IsFineShort ns (short.Frame p regs mems) = IsNumber p × AreFineRegisters ns regs × AreFineMems ns mems
IsFineShort ns (short.ExtendCode p code) = IsNumber p × IsOwnCode code.ranges
IsFineShort ns (short.Compose p q) = IsNumber p × IsNumber q
IsFineShort ns (short.Strengthen p facts pre) = IsNumber p × AreFineFacts ns facts × IsFineSide ns pre
IsFineShort ns (short.Weaken p facts post) = IsNumber p × AreFineFacts ns facts × IsFineSide ns post
IsFineShort ns (short.Discharge p facts) = IsNumber p × AreFineFacts ns facts
IsFineShort ns (short.UseExit def exit) = (def < index_limit) × (exit < index_limit)
IsFineShort ns (short.Loop def cited) = (def < index_limit) × AllByRecursion IsNumber cited
IsFineShort ns (short.Forget k) = IsNumber k
