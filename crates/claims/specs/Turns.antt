-- How many steps of the machine a turn of evaluation is, and how many turns a step.
use Rattle.std.specs.Prelude.{◌≡◌, ℕ, ◌-◌, ◌*◌, ◌≤◌, List, []}
use Rattle.rv_machine.specs.State.{State}
use Rattle.tailrec_lang.specs.Tree.{GroupTree, listed_def}
use Rattle.tailrec_lang.specs.Eval.{Arguments, Done, eval}
use Rattle.claims.specs.Headline.{Region, Starts, held_in}
use Rattle.claims.specs.LinkExact.{ReturnsBack}

-- each access is in the first memory
abbrev pub InFirstMemory : ℕ → ℕ → Type 0
InFirstMemory a q = q ≡ 0

-- the machine comes from s in k steps to t, where it returns from the function, and has come back from all that this calls
abbrev pub RunsBack : (ℕ → ℕ → Type 0) → List Region → State → ℕ → State → Type 0
RunsBack Uses regions s k t = ReturnsBack Uses regions t [] k s

-- For each state at the entry of the group's function that holds the file's code, all regions and each of these runs, which returns after k steps:
-- where evaluation within some turns is done, the run has at most so many steps for each turn that was taken, and there were at most two turns
-- for each of its steps.
abbrev pub CountsSteps : (each : ℕ) → (Runs : List Region → State → ℕ → State → Type 0) → List ℕ → GroupTree → Type 0
CountsSteps each Runs file g =
    (s : State) (regions : List Region) → Starts file g s regions
    → (k : ℕ) (t : State) → Runs regions s k t
    → (turns exit pc left : ℕ) (results : Arguments) → eval g (listed_def g) (held_in s g regions) turns ≡ Done exit pc results left
    → (k ≤ each * (turns - left)) × (turns - left ≤ 2 * k)
