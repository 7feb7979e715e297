-- Which theorems give their code to those that a rule makes of them.
use Rattle.std.specs.Prelude.{◌≡◌, ◌&&◌, ℕ, Bool, true, false, List, Option, Some, None, IfSome, IsSomeAnd}
use Rattle.rv_words.specs.declared.range.Range.{Range}
use Rattle.tailrec_lang.specs.Tree.{GroupTree}
use Rattle.triple_kernel.specs.Tree.{TripleTree}
use Rattle.term_arena.specs.declared.node.Node.{Node}
use Rattle.short_text.specs.declared.short.Short.{Short}
use Rattle.short_text.specs.declared.short.Short.TheVariants as short
use Rattle.verdicts.specs.Instance.{History}
use Rattle.checker.specs.Short.{IsStatedBy}
use Rattle.proof_text.specs.Line.{Axiom, Compose, Discharge, ExtendCode, Frame, Inst, RuleTree, Strengthen, UseExit, Weaken}

-- the theorem whose code the triple has that a line by the rule states, if it has that of one
abbrev pub code_giver : RuleTree → Option ℕ
code_giver (Axiom address word form) = None
code_giver (Inst p words mems) = Some p
code_giver (Frame p) = Some p
code_giver (Compose p q) = None
code_giver (ExtendCode p) = None
code_giver (Strengthen p) = Some p
code_giver (Weaken p) = Some p
code_giver (Discharge p) = Some p
code_giver (UseExit def exit) = None

-- .. or a short line
abbrev pub short_giver : Short → Option ℕ
short_giver (short.Axiom address word form) = None
short_giver (short.Inst p words mems) = Some p
short_giver (short.Frame p regs mems) = Some p
short_giver (short.ExtendCode p code) = None
short_giver (short.Compose p q) = None
short_giver (short.Strengthen p facts pre) = Some p
short_giver (short.Weaken p facts post) = Some p
short_giver (short.Discharge p facts) = Some p
short_giver (short.UseExit def exit) = None
short_giver (short.Loop def cited) = None
short_giver (short.Forget k) = None

-- the code is that of the theorem which gives it, if there is one
abbrev pub IsGiven : History → Option ℕ → List Range → Type 0
IsGiven h giver code = IfSome giver (λ p. IsSomeAnd (h.theorem p) (λ q. q.code ≡ code))

-- whether the triple that a short line states has the group's own code where the theorems with these numbers have it, and `all` stands for
-- that code
abbrev pub states_own : (ℕ → Bool) → (all : Bool) → Short → Bool
states_own marked all (short.Axiom address word form) = false
states_own marked all (short.Inst p words mems) = marked p
states_own marked all (short.Frame p regs mems) = marked p
states_own marked all (short.ExtendCode p code) = all
states_own marked all (short.Compose p q) = marked p && marked q
states_own marked all (short.Strengthen p facts pre) = marked p
states_own marked all (short.Weaken p facts post) = marked p
states_own marked all (short.Discharge p facts) = marked p
states_own marked all (short.UseExit def exit) = true
states_own marked all (short.Loop def cited) = false
states_own marked all (short.Forget k) = false

-- each triple that the line states has the group's own code
pub record IsOwnStated (g : GroupTree) (h : History) (ns : List Node) (s : Short) : Type 0 where
  pub each : (t : TripleTree) → IsStatedBy g h ns s t → t.code ≡ g.code
