-- What judges whether theorems lead to the leaves of a definition, while a walk goes from one leaf to the next.
use Rattle.std.specs.Prelude.{◌≡◌, ℕ, ◌+◌, ◌≤◌, List, Option, sum_by}
use Rattle.tailrec_lang.specs.Tree.{DefTree, GroupTree}
use Rattle.triple_kernel.specs.Tree.{FactTree, TripleTree}
use Rattle.loop_rule.specs.Tree.{LeafTree}

-- a definition that is to be closed, its group, and the theorems by their numbers
pub record Closing : Type 0 where
  pub group : GroupTree
  pub def : DefTree
  pub theorem : ℕ → Option TripleTree

-- what is told of values that judge leaves
pub record Judge (J : Type 0) : Type 1 where
  -- the definition and the theorems; they stay the same
  pub closing : J → Closing
  -- the facts of the way to where the walk is
  pub way : J → List FactTree
  -- what has to hold for a call
  pub IsReady : J → Type 0
  -- what is there at a first one may still be there
  pub Since : J → J → Type 0
  -- how many steps were taken, and how many a leaf takes at most
  pub steps : J → ℕ
  pub most : Closing → LeafTree → ℕ
  -- what holds of each theorem that leads to a leaf
  pub Holds : GroupTree → TripleTree → Type 0

-- the second came of the first over these leaves
pub record Went {J : Type 0} (j : Judge J) (leaves : List LeafTree) (old new : J) : Type 0 where
  pub closing : j.closing new ≡ j.closing old
  pub ready : j.IsReady new
  pub since : (first : J) → j.Since first old → j.Since first new
  pub steps : j.steps new ≤ j.steps old + sum_by (j.most (j.closing old)) leaves
