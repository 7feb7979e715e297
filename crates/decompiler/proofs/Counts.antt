-- Evaluations that end take the same number of turns.
use Rattle.std.proofs.Common.{◌≡◌, ℕ, ◌+◌, ◌-◌, ◌*◌, ◌≤◌, List, sym, ap, ◌∙◌, arith}
use Rattle.rv_machine.specs.State.{State}
use Rattle.tailrec_lang.specs.Tree.{GroupTree, listed_def}
use Rattle.tailrec_lang.specs.Eval.{Arguments, Done, eval}
use Rattle.tailrec_lang.proofs.Turns.{eval-more}
use Rattle.claims.specs.Headline.{Region, Starts, held_in}
use Rattle.claims.specs.Exact.{Gives}
use Rattle.claims.specs.Turns.{CountsSteps}

same-left : (exit pc left exit' pc' left' : ℕ) (x x' : Arguments) → Done exit pc x left ≡ Done exit' pc' x' left' → left ≡ left'
same-left exit pc left exit' pc' left' x x' e = cc

-- a run of k steps that gives this, with at most 32 steps for each turn
pub record Gains (g : GroupTree) (regions : List Region) (s : State) (k : ℕ) (t : State) : Type 0 where
  pub gives : Gives g regions s (2 * k) t
  pub few : k + 32 * gives.left ≤ 32 * (2 * k)

-- the turns of each evaluation that ends are then told by the steps
pub counts : (g : GroupTree) (regions : List Region) (s : State) (k : ℕ) (t : State) → Gains g regions s k t
    → (turns exit pc left : ℕ) (results : Arguments) → eval g (listed_def g) (held_in s g regions) turns ≡ Done exit pc results left
    → (k ≤ 32 * (turns - left)) × (turns - left ≤ 2 * k)
counts g regions s k t gains turns exit pc left results done =
    let d = listed_def g in
    let x = held_in s g regions in
    let r = gains.gives in
    let few = gains.few in
    let more = eval-more g d x turns (2 * k) exit pc results left done in
    let other = eval-more g d x (2 * k) turns r.exit r.pc r.results r.left r.done in
    let turned : 2 * k + turns ≡ turns + 2 * k = omega arith in
    let same = same-left r.exit r.pc (r.left + turns) exit pc (left + 2 * k) r.results results (sym other ∙ ap (eval g d x) turned ∙ more) in
    (omega (arith, few, same), omega (arith, few, same))

-- each of these runs gives so
abbrev pub Returning : (List Region → State → ℕ → State → Type 0) → List ℕ → GroupTree → Type 0
Returning Runs file g = (s : State) (regions : List Region) → Starts file g s regions → (k : ℕ) (t : State) → Runs regions s k t → Gains g regions s k t

-- so nothing is lost, and steps are counted
pub exact-of : (Runs : List Region → State → ℕ → State → Type 0) (file : List ℕ) (g : GroupTree) → Returning Runs file g
    → (s : State) (regions : List Region) → Starts file g s regions → (k : ℕ) (t : State) → Runs regions s k t → Gives g regions s (2 * k) t
exact-of Runs file g gains s regions starts k t runs = (gains s regions starts k t runs).gives

pub counts-of : (Runs : List Region → State → ℕ → State → Type 0) (file : List ℕ) (g : GroupTree) → Returning Runs file g → CountsSteps 32 Runs file g
counts-of Runs file g gains s regions starts k t runs = counts g regions s k t (gains s regions starts k t runs)
