-- Counts and scopes on the way through a body, and values that fit an exit.
use Rattle.std.specs.Prelude.{◌≡◌, ℕ, ◌^◌, min, List, [], ◌∷◌, Option, IsSomeAnd}
use Rattle.tailrec_lang.specs.declared.group.Exit.{Exit}
use Rattle.tailrec_lang.specs.declared.scope.Scope.{Scope}
use Rattle.tailrec_lang.specs.Tree.{StepTree, ValuesTree, GroupTree}
use Rattle.tailrec_lang.specs.WellFormed.{HasCounts, StepInScope, exit_words, mems_after, words_after}

-- ---- how the program counts variables

-- the counts of a scope of that many variables, where 2 ^ 32 stands for all that are larger: numbers of variables
-- have 32 bits
pub record Counts (scope : Scope) (words mems : ℕ) : Type 0 where
  pub words_are : scope.words ≡ min words (2 ^ 32)
  pub mems_are : scope.mems ≡ min mems (2 ^ 32)

-- the variables of each step are in scope
abbrev pub StepsInScope : List StepTree → ℕ → ℕ → Type 0
StepsInScope [] words mems = Unit {0}
StepsInScope (s ∷ ss) words mems = StepInScope s words mems × StepsInScope ss (words_after s words) (mems_after s mems)

-- how many word variables there are after the steps
abbrev pub words_after_all : List StepTree → ℕ → ℕ
words_after_all [] words = words
words_after_all (s ∷ ss) words = words_after_all ss (words_after s words)

-- how many memory variables there are after the steps
abbrev pub mems_after_all : List StepTree → ℕ → ℕ
mems_after_all [] mems = mems
mems_after_all (s ∷ ss) mems = mems_after_all ss (mems_after s mems)

-- there are as many values as an exit is left with, if there is one
abbrev pub FitsExit : GroupTree → Option Exit → ValuesTree → Type 0
FitsExit g exit v = IsSomeAnd exit (λ x. HasCounts v (exit_words g x) g.mems)
