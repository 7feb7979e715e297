-- Nothing is lost: where the machine returns from a function, evaluation gives what it returns with.
use Rattle.std.specs.Prelude.{◌≡◌, ℕ, ◌-◌, ◌*◌, ◌<◌, true, List, slice_get, Some}
use Rattle.rv_machine.specs.State.{State}
use Rattle.rv_machine.specs.Touches.{touches, IsTouched}
use Rattle.rv_machine.specs.Run.{run, IsAtReturn}
use Rattle.tailrec_lang.specs.declared.group.Exit.TheVariants.{Ret}
use Rattle.tailrec_lang.specs.Tree.{GroupTree, exits_at, listed_def}
use Rattle.tailrec_lang.specs.Eval.{Arguments, Done, eval}
use Rattle.claims.specs.Headline.{Region, is_within, held_in, Starts, Ends}

-- the next step loads and stores in the regions alone
abbrev pub StaysWithin : List Region → State → Type 0
StaysWithin regions s = (a : ℕ) → IsTouched (touches s) a → is_within regions a ≡ true

-- From s the machine comes in k steps to t, each of which stays within the regions. The last of them is a return, and none
-- before it is.
pub record FirstReturns (regions : List Region) (s : State) (k : ℕ) (t : State) : Type 0 where
  pub some : 0 < k
  pub ran : run s k ≡ Some t
  pub within : (j : ℕ) (u : State) → j < k → run s j ≡ Some u → StaysWithin regions u
  pub last : (u : State) → run s (k - 1) ≡ Some u → IsAtReturn u
  pub first : (j : ℕ) (u : State) → j < k - 1 → run s j ≡ Some u → IsAtReturn u → ⊥

-- evaluation of the group's function from s leaves it by a return as t, with everything else unchanged
pub record Gives (g : GroupTree) (regions : List Region) (s : State) (turns : ℕ) (t : State) : Type 0 where
  pub exit : ℕ
  pub pc : ℕ
  pub results : Arguments
  pub left : ℕ
  pub done : eval g (listed_def g) (held_in s g regions) turns ≡ Done exit pc results left
  pub return : slice_get (exits_at g (listed_def g)) exit ≡ Some Ret
  pub ends : Ends g regions s pc results t

-- For each state at the entry of the group's function that holds the file's code, and all regions: where the machine first
-- returns after k steps and touches the regions alone, evaluation within 2 k turns gives the state in which it then is.
abbrev pub Exact : List ℕ → GroupTree → Type 0
Exact file g =
    (s : State) (regions : List Region) → Starts file g s regions
    → (k : ℕ) (t : State) → FirstReturns regions s k t → Gives g regions s (2 * k) t
