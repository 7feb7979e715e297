-- Runs of the machine, and how one ends that stops at an address.
use Rattle.std.specs.Prelude.{◌≡◌, ◌≢◌, ℕ, zero, suc, ◌<◌, ◌≤◌, Option, Some, option_and_then, pos}
use Rattle.rv_decode.specs.declared.instruction.Instr.TheVariants.{Jalr}
use Rattle.rv_machine.specs.State.{State}
use Rattle.rv_machine.specs.Step.{instruction_at, step, stuck}
use Rattle.rv_machine.specs.declared.running.RunEnd.{RunEnd}
use Rattle.rv_machine.specs.declared.running.RunEnd.TheVariants as end

-- the state after k steps, if each of them exists
unfoldable pub run : State → ℕ → Option State
run s zero = Some s
run s (suc k) = option_and_then (λ t. run t k) (step s)

-- the next step is the return, `jalr x0, 0(x1)`
abbrev pub IsAtReturn : State → Type 0
IsAtReturn s = instruction_at s ≡ Some (Jalr 0 1 (pos 0))

-- no state of the run is at that address before k steps
abbrev pub Misses : ℕ → State → ℕ → Type 0
Misses a s k = (j : ℕ) → j < k → (t : State) → run s j ≡ Some t → t.pc ≢ a

-- the run of at most that many steps from s ends in t: at the address for the first time, stuck before it came there,
-- or after all steps
abbrev pub EndsIn : ℕ → ℕ → State → State → RunEnd → Type 0
EndsIn until steps s t (end.Met k) = (k ≤ steps) × (run s k ≡ Some t) × (t.pc ≡ until) × Misses until s k
EndsIn until steps s t (end.Stuck k why) = (k < steps) × (run s k ≡ Some t) × (stuck t ≡ Some why) × Misses until s (suc k)
EndsIn until steps s t end.Steps = (run s steps ≡ Some t) × Misses until s (suc steps)
