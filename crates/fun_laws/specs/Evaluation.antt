-- Definitions that evaluate as those of a group do.
use Rattle.std.specs.Prelude.{◌≡◌, ℕ, List}
use Rattle.tailrec_lang.specs.Tree.{DefTree, GroupTree}
use Rattle.tailrec_lang.specs.Eval.{Arguments, eval}
use Rattle.group_terms.specs.Range.{ArgumentsInRange}
use Rattle.fun_laws.specs.Rewriting.{with_defs}

-- whichever definition is entered, with whichever words and memories, within any number of turns: the outcome is the same,
-- with the turns that are left, and the number of a Need that is false
abbrev pub EvaluateAlike : GroupTree → List DefTree → Type 0
EvaluateAlike g es = (d : ℕ) (x : Arguments) (n : ℕ) → ArgumentsInRange x → eval g d x n ≡ eval (with_defs g es) d x n
