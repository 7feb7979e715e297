-- Runs along states that are known, as runs that return.
use Rattle.std.proofs.Common.{◌≡◌, ℕ, zero, suc, ◌+◌, ◌-◌, ◌<◌, ◌≤◌, true, Some, List, sym, ap, subst, ◌∙◌, arith}
use Rattle.std.specs.Prelude.{option_and_then, pos, slice_get, IsSomeAnd}
use Rattle.std.specs.Option.{unwrap_or}
use Rattle.rv_decode.specs.declared.instruction.Instr.{Instr}
use Rattle.rv_decode.specs.declared.instruction.Instr.TheVariants.{Jalr}
use Rattle.rv_machine.specs.State.{State}
use Rattle.rv_machine.specs.Step.{instruction_at, step}
use Rattle.rv_machine.specs.Run.{run, IsAtReturn}
use Rattle.rv_machine.specs.Touches.{IsTouched, touched, touches}
use Rattle.rv_machine.proofs.StepLemmas.{touches-at}
use Rattle.claims.specs.Headline.{Region, is_within}
use Rattle.claims.specs.Exact.{FirstReturns}
use Rattle.claims.specs.LinkExact.{FirstReturnsIn, StaysIn}

-- n steps and a return through these states, each by its instruction
pub record IsPath (n : ℕ) (at : ℕ → State) (by : ℕ → Instr) : Type 0 where
  pub steps : (j : ℕ) → j < n + 1 → step (at j) ≡ Some (at (j + 1))
  pub fetched : (j : ℕ) → j < n + 1 → instruction_at (at j) ≡ Some (by j)
  pub last : by n ≡ Jalr 0 1 (pos 0)
  pub first : (j : ℕ) → j < n → by j ≡ Jalr 0 1 (pos 0) → ⊥

along : (n : ℕ) (at : ℕ → State) (by : ℕ → Instr) → IsPath n at by → (j i : ℕ) → i + j ≤ n + 1 → run (at i) j ≡ Some (at (i + j))
unfolding run
along n at by path zero i le = λ k. Some (at (same k))
  where
    same : i ≡ i + 0
    same = omega arith
along n at by path (suc j) i le = ap (option_and_then (λ t. run t j)) (path.steps i (omega (arith, le))) ∙ (along n at by path j (i + 1) (omega (arith, le)) ∙ (λ k. Some (at (same k))))
  where
    same : i + 1 + j ≡ i + suc j
    same = omega arith

pub ran-along : (n : ℕ) (at : ℕ → State) (by : ℕ → Instr) → IsPath n at by → (j : ℕ) → j ≤ n + 1 → run (at 0) j ≡ Some (at j)
ran-along n at by path j le = along n at by path j 0 (omega (arith, le)) ∙ (λ k. Some (at (same k)))
  where
    same : 0 + j ≡ j
    same = omega arith

one-state : (s t : State) → Some s ≡ Some t → s ≡ t
one-state s t e = ap (λ o. unwrap_or o s) e

one-instruction : (i j : Instr) → Some i ≡ Some j → i ≡ j
one-instruction i j e = ap (λ o. unwrap_or o i) e

pub stands-at : (n : ℕ) (at : ℕ → State) (by : ℕ → Instr) → IsPath n at by → (j : ℕ) (u : State) → j ≤ n + 1 → run (at 0) j ≡ Some u → at j ≡ u
stands-at n at by path j u le e = one-state (at j) u (sym (ran-along n at by path j le) ∙ e)

-- what the state after j steps touches
touched-there : (n : ℕ) (at : ℕ → State) (by : ℕ → Instr) → IsPath n at by → (j : ℕ) (u : State) → j < n + 1 → run (at 0) j ≡ Some u → (a : ℕ) → IsTouched (touches u) a → IsTouched (touched (by j) (at j)) a
touched-there n at by path j u lt e a t =
    subst (λ x. IsTouched x a) (touches-at (by j) (at j) (path.fetched j lt))
    (subst (λ s. IsTouched (touches s) a) (sym (stands-at n at by path j u (omega (arith, lt)) e)) t)

returns-last : (n : ℕ) (at : ℕ → State) (by : ℕ → Instr) → IsPath n at by → (u : State) → run (at 0) (n + 1 - 1) ≡ Some u → IsAtReturn u
returns-last n at by path u e =
    let there = stands-at n at by path (n + 1 - 1) u (omega arith) e in
    let fetched : instruction_at (at (n + 1 - 1)) ≡ Some (by (n + 1 - 1)) = path.fetched (n + 1 - 1) (omega arith) in
    let same : n + 1 - 1 ≡ n = omega arith in
    subst IsAtReturn there (fetched ∙ ((λ k. Some (by (same k))) ∙ ap Some path.last))

not-before : (n : ℕ) (at : ℕ → State) (by : ℕ → Instr) → IsPath n at by → (j : ℕ) (u : State) → j < n + 1 - 1 → run (at 0) j ≡ Some u → IsAtReturn u → ⊥
not-before n at by path j u lt e r =
    path.first j (omega (arith, lt))
    (one-instruction (by j) (Jalr 0 1 (pos 0)) (sym (path.fetched j (omega (arith, lt))) ∙ subst IsAtReturn (sym (stands-at n at by path j u (omega (arith, lt)) e)) r))

-- where each instruction touches the regions alone
pub first-along : (n : ℕ) (at : ℕ → State) (by : ℕ → Instr) → IsPath n at by → (regions : List Region)
    → ((j : ℕ) → j < n + 1 → (a : ℕ) → IsTouched (touched (by j) (at j)) a → is_within regions a ≡ true)
    → FirstReturns regions (at 0) (n + 1) (at (n + 1))
first-along n at by path regions within = record {
  some = omega arith;
  ran = ran-along n at by path (n + 1) (omega arith);
  within = λ j u lt e a t. within j lt a (touched-there n at by path j u lt e a t);
  last = returns-last n at by path;
  first = not-before n at by path;
}

-- where each instruction touches its region alone
pub first-along-in : (n : ℕ) (at : ℕ → State) (by : ℕ → Instr) → IsPath n at by → (Uses : ℕ → ℕ → Type 0) (regions : List Region)
    → ((j : ℕ) → j < n + 1 → (q a : ℕ) → Uses (at j).pc q → IsTouched (touched (by j) (at j)) a → IsSomeAnd (slice_get regions q) (λ region. region a ≡ true))
    → FirstReturnsIn Uses regions (at 0) (n + 1) (at (n + 1))
first-along-in n at by path Uses regions within = record {
  some = omega arith;
  ran = ran-along n at by path (n + 1) (omega arith);
  within = stays;
  last = returns-last n at by path;
  first = not-before n at by path;
}
  where
    stays : (j : ℕ) (u : State) → j < n + 1 → run (at 0) j ≡ Some u → StaysIn Uses regions u
    stays j u lt e q a uses t =
        within j lt q a (subst (λ s. Uses s.pc q) (sym (stands-at n at by path j u (omega (arith, lt)) e)) uses) (touched-there n at by path j u lt e a t)
