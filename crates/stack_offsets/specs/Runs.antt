-- Runs of the machine along the code of a function.
use Rattle.std.specs.Prelude.{◌≡◌, ℕ, ◌<◌, Some}
use Rattle.rv_words.specs.Bytes.{Bytes}
use Rattle.rv_decode.specs.declared.instruction.Instr.{Instr}
use Rattle.rv_machine.specs.State.{State}
use Rattle.rv_machine.specs.Step.{instruction_at, step}
use Rattle.rv_machine.specs.Run.{run}
use Rattle.stack_offsets.specs.Offsets.{LeadsIn}

-- the step from t to u is that of an instruction of the function, and leads where this does
pub record StepsAlong (code : Bytes) (t u : State) : Type 0 where
  pub instruction : Instr
  pub fetched : instruction_at t ≡ Some instruction
  pub leads : LeadsIn code t.pc instruction u.pc

-- each of the first k steps from s does so
abbrev pub RunsAlong : Bytes → State → ℕ → Type 0
RunsAlong code s k = (j : ℕ) (t u : State) → j < k → run s j ≡ Some t → step t ≡ Some u → StepsAlong code t u
