-- What the short line of a line has of it.
use Rattle.std.specs.Prelude.{◌≡◌, Bool, true, List, Option, is_some}
use Rattle.rv_words.specs.declared.range.Range.{Range}
use Rattle.sep_assert.specs.declared.assertion.Assertion.{Assertion}
use Rattle.triple_kernel.specs.Tree.{TripleTree}
use Rattle.term_arena.specs.declared.node.Node.{Node}
use Rattle.proof_text.specs.Line.{LineTree, RuleTree, Frame, States, line_or_own}
use Rattle.verdicts.specs.Instance.{History}
use Rattle.short_text.specs.declared.short.Short.{Short}
use Rattle.short_text.specs.FullLine.{IsFullLine}
use Rattle.short_text.specs.SpelledShort.{short_or_own}
use Rattle.proof_text.specs.LineLimits.{IsLine}
use Rattle.checker.specs.Short.{HasFurtherAfter, IsFineShort}
use Rattle.held_terms.specs.Terms.{AreTermsPutIn}
use Rattle.proof_v2.specs.Preconditions.{ArePreconditions, pre_at}
use Rattle.proof_v2.specs.ShortTerms.{line_terms}

-- the short line has the line's rule, citations and stated parts, and is within the limits
pub record IsShortOf (h : History) (ns : List Node) (s : Short) (l : LineTree) : Type 0 where
  pub full : IsFullLine ns s l
  pub further : HasFurtherAfter h ns s l
  pub fine : IsFineShort ns s

-- .. whatever the group's own code is, where `all` stands for that
abbrev pub IsShortFor : History → List Node → (all : Bool) → Short → LineTree → Type 0
IsShortFor h ns all s l = (own : List Range) → IsLine (line_or_own own all l) → IsShortOf h ns (short_or_own own all s) (line_or_own own all l)

-- .. of a triple that is stated by a rule, after any lines that left theorems with these preconditions
abbrev pub IsShortRule : List (Option Assertion) → List Node → RuleTree → TripleTree → Short → Type 0
IsShortRule kept ns rule t s = (h : History) (all : Bool) → ArePreconditions kept h → IsShortFor h ns all s (States rule t)

-- .. of a theorem that the rule puts further registers and memories beside
abbrev pub IsPreKept : List (Option Assertion) → RuleTree → Type 0
IsPreKept kept (Frame p) = is_some (pre_at kept p) ≡ true
IsPreKept kept _ = Unit {0}

-- the line's terms were put into the table
abbrev pub AreLineTermsPut : List (Option Assertion) → (old : List Node) → LineTree → (new : List Node) → Type 0
AreLineTermsPut kept old l new = (h : History) → ArePreconditions kept h → AreTermsPutIn old (line_terms h l) new
