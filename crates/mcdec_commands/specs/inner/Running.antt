-- What a run from a state comes to, and what is shown of a state.
use Rattle.std.specs.Prelude.{◌≡◌, ℕ, ◌==◌, ◌||◌, Bool, not, List, [], filter, is_some, map}
use Rattle.std.specs.List.{range_with_len}
use Rattle.rv_words.specs.declared.range.Range.{Range}
use Rattle.rv_machine.specs.State.{State}
use Rattle.rv_machine.specs.Run.{EndsIn}
use Rattle.rv_machine.specs.declared.running.RunEnd.{RunEnd}
use Rattle.mcdec_answers.specs.declared.answer.RunAnswer.{RunAnswer}
use Rattle.mcdec_answers.specs.declared.answer.Shown.{Shown}
use Rattle.mcdec_answers.specs.Command.{Arg, Given, given_to}
use Rattle.mcdec_commands.specs.Memory.{placed}
use Rattle.mcdec_commands.specs.RunAnswer.{answer_at}

-- a state with the ranges' bytes put over those of its memory
abbrev pub with_placed : List Range → State → State
with_placed rs s = record s { mem = placed rs s.mem }

-- what a run from a state to an address within steps comes to
abbrev pub MachineGives : ℕ → ℕ → List Arg → State → RunAnswer → Type 0
MachineGives until steps args s a = (t : State) × (how : RunEnd) × EndsIn until steps s t how × (a ≡ answer_at args t how)

-- a register that is given a value, or doesn't hold 0
abbrev pub is_shown : List Given → State → ℕ → Bool
is_shown given t r = is_some (given_to given r) || not (t.reg r == 0)

-- what is shown of a state after that many steps, with these bytes of memory
abbrev pub shown_with : List Given → ℕ → State → List Range → Shown
shown_with given k t memory =
    let registers = filter (is_shown given t) (range_with_len 1 31) in
    record { count = k; pc = t.pc; registers = registers; words = map t.reg registers; memory = memory; stack = [] }
