-- What is kept of the lines of version 1 before a line while it becomes a short one: the preconditions of their theorems.
use Rattle.std.specs.Prelude.{◌≡◌, ℕ, List, Option, Some, None, length, option_map, slice_get}
use Rattle.sep_assert.specs.declared.assertion.Assertion.{Assertion}
use Rattle.sep_assert.specs.Tree.{AssertionTree, assertion_tree}
use Rattle.tailrec_lang.specs.Tree.{GroupTree}
use Rattle.proof_text.specs.Line.{spelled_tree}
use Rattle.proof_text.specs.LineLimits.{IsLine}
use Rattle.proof_text.specs.declared.line.SpelledLine.{SpelledLine}
use Rattle.verdicts.specs.Instance.{History, Instance}

abbrev pub pre_tree : Option (Option Assertion) → Option AssertionTree
pre_tree None = None
pre_tree (Some None) = None
pre_tree (Some (Some pre)) = Some (assertion_tree pre)

-- the precondition of the theorem of that number, if it was stated and not forgotten
abbrev pub pre_at : List (Option Assertion) → ℕ → Option AssertionTree
pre_at kept k = pre_tree (slice_get kept k)

-- these are the preconditions of the theorems that lines left behind them
pub record ArePreconditions (kept : List (Option Assertion)) (h : History) : Type 0 where
  pub next : h.next ≡ length kept
  pub each : (k : ℕ) → pre_at kept k ≡ option_map (λ t. t.pre) (h.theorem k)

-- the line is right after those, in a text of version 1
pub record MayFollow (kept : List (Option Assertion)) (l : SpelledLine) (g : GroupTree) (h : History) : Type 0 where
  pub keeps : ArePreconditions kept h
  pub fits : IsLine (spelled_tree g.code l)
  pub right : Instance g h (spelled_tree g.code l)
