-- The run of `add x10, x10, x11` and a return, of which nothing may be lost.
use Rattle.std.proofs.Common.{◌≡◌, ℕ, zero, suc, ◌+◌, ◌<◌, true, Some, List, [], refl, arith}
use Rattle.std.specs.Prelude.{pos}
use Rattle.rv_words.specs.declared.operation.Op.TheVariants.{Add}
use Rattle.rv_decode.specs.declared.instruction.Instr.{Instr}
use Rattle.rv_decode.specs.declared.instruction.Instr.TheVariants as instr
use Rattle.rv_decode.specs.Decodes.{decoded}
use Rattle.rv_machine.specs.State.{State}
use Rattle.rv_machine.specs.Step.{instruction_at, step}
use Rattle.rv_machine.specs.Touches.{IsTouched, touched}
use Rattle.tailrec_lang.specs.Eval.{Arguments, Done, eval}
use Rattle.claims.specs.Headline.{IsRight, Region, held_in, is_within}
use Rattle.claims.specs.Exact.{Exact, FirstReturns, Gives}
use Rattle.claims.specs.Turns.{CountsSteps}
use Rattle.claim_examples.specs.Sum.{needing, sum, sum_file, sum_results, sum_start}
use Rattle.claim_examples.proofs.Paths.{IsPath, first-along}
use Rattle.claim_examples.proofs.SumLemmas.{added, first-step, returned, second-step, starts, sum-ended, sum-starts}

abbrev stands : ℕ → State
stands zero = sum_start
stands (suc zero) = added
stands (suc (suc j)) = returned

abbrev instructions : ℕ → Instr
instructions zero = instr.Op Add 10 10 11
instructions (suc j) = instr.Jalr 0 1 (pos 0)

sum-path : IsPath 1 stands instructions
unfolding decoded added
sum-path = record { steps = steps; fetched = fetched; last = refl; first = first }
  where
    steps : (j : ℕ) → j < 2 → step (stands j) ≡ Some (stands (j + 1))
    steps zero lt = first-step
    steps (suc zero) lt = second-step
    steps (suc (suc j)) lt = absurd (omega arith)

    fetched : (j : ℕ) → j < 2 → instruction_at (stands j) ≡ Some (instructions j)
    fetched zero lt = refl
    fetched (suc zero) lt = refl
    fetched (suc (suc j)) lt = absurd (omega arith)

    first : (j : ℕ) → j < 1 → instructions j ≡ instr.Jalr 0 1 (pos 0) → ⊥
    first zero lt e = cc
    first (suc j) lt e = omega (arith, lt)

no-touch : (regions : List Region) (j : ℕ) → j < 2 → (a : ℕ) → IsTouched (touched (instructions j) (stands j)) a → is_within regions a ≡ true
no-touch regions zero lt a (k, l, e) = absurd (omega arith)
no-touch regions (suc j) lt a (k, l, e) = absurd (omega arith)

sum-returns : FirstReturns [] sum_start 2 returned
sum-returns = first-along 1 stands instructions sum-path [] (no-touch [])

sum-gives : Gives sum [] sum_start 4 returned
sum-gives = record { exit = 0; pc = 0x2000; results = sum_results 5; left = 3; done = refl; return = refl; ends = sum-ended }

pub sum-returned : (t : State) × FirstReturns [] sum_start 2 t × Gives sum [] sum_start 4 t
sum-returned = (returned, sum-returns, sum-gives)

-- the run is of two steps, and evaluation takes one turn
pub more-than-one : CountsSteps 1 FirstReturns sum_file sum → ⊥
more-than-one counts =
    let one = (counts sum_start [] sum-starts 2 returned sum-returns 1 0 0x2000 0 (sum_results 5) refl).0 in
    omega (arith, one)

-- ---- a function that needs what isn't true

never-done : (x : Arguments) (turns exit pc left : ℕ) (results : Arguments) → eval needing 0 x turns ≡ Done exit pc results left → ⊥
never-done x zero exit pc left results e = cc
never-done x (suc turns) exit pc left results e = cc

pub needing-right : IsRight sum_file needing
needing-right s regions starts turns exit pc left results e = absurd (never-done (held_in s needing regions) turns exit pc left results e)

pub needing-lost : Exact sum_file needing → ⊥
needing-lost exact =
    let gives = exact sum_start [] (starts _ _) 2 returned sum-returns in
    never-done (held_in sum_start needing []) 4 gives.exit gives.pc gives.left gives.results gives.done
