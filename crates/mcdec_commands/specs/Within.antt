-- What is claimed of a group's function, in some states alone: of those with P.
use Rattle.std.specs.Prelude.{◌≡◌, ℕ, ◌*◌, List}
use Rattle.rv_machine.specs.State.{State}
use Rattle.triple_kernel.specs.Valid.{Reaches}
use Rattle.tailrec_lang.specs.Tree.{GroupTree, listed_def}
use Rattle.tailrec_lang.specs.Eval.{Arguments, Done, eval}
use Rattle.claims.specs.Headline.{Region, Starts, Ends, held_in}
use Rattle.claims.specs.Exact.{Gives}

-- what `IsRight` says, in each state with P
abbrev pub IsRightIn : (State → Type 0) → List ℕ → GroupTree → Type 0
IsRightIn P file g =
    (s : State) (regions : List Region) → P s → Starts file g s regions
    → (turns exit pc left : ℕ) (results : Arguments) → eval g (listed_def g) (held_in s g regions) turns ≡ Done exit pc results left
    → (t : State) × Reaches s t × Ends g regions s pc results t

-- What `Exact`, `ExactIn` and `LinkExact` say, in each state with P. `Runs` tells from which state the machine comes in how many steps to
-- which, in these regions: it first returns, or it returns from the function and from all that this calls.
abbrev pub IsExactIn : (State → Type 0) → (Runs : List Region → State → ℕ → State → Type 0) → List ℕ → GroupTree → Type 0
IsExactIn P Runs file g =
    (s : State) (regions : List Region) → P s → Starts file g s regions
    → (k : ℕ) (t : State) → Runs regions s k t → Gives g regions s (2 * k) t
