-- When each answer to `run` comes.
use Rattle.std.specs.Prelude.{◌≡◌, ℕ, ◌<◌, ◌≤◌, ◌==◌, not, ◌||◌, List, [], ◌∷◌, length, map, filter, is_some, Some, Ok, Err}
use Rattle.std.specs.List.{range_with_len}
use Rattle.elf_image.specs.Fault.{IsReadable, fault_of}
use Rattle.elf_image.specs.Image.{memory_of_file}
use Rattle.decompiler.specs.Names.{StandsFor}
use Rattle.rv_machine.specs.State.{State}
use Rattle.rv_machine.specs.Run.{EndsIn}
use Rattle.rv_machine.specs.declared.running.RunEnd.{RunEnd}
use Rattle.rv_machine.specs.declared.running.RunEnd.TheVariants as end
use Rattle.mcdec_answers.specs.declared.answer.RunAnswer.{RunAnswer}
use Rattle.mcdec_answers.specs.declared.answer.RunAnswer.TheVariants as answer
use Rattle.mcdec_answers.specs.declared.command.Memory.TheVariants.{First}
use Rattle.mcdec_answers.specs.Command.{Arg, given_to, value_of, givens, ranges}
use Rattle.mcdec_commands.specs.Memory.{placed, shown_at}

-- the most bytes of an ELF file that are read
abbrev pub elf_limit : ℕ
elf_limit = 67108864

-- the state at an address: in memory the file's bytes and the words' ranges over them, and in each register the value that it
-- is given, or 0
abbrev pub state_given : List ℕ → List Arg → ℕ → State
state_given file args a = record { pc = a; reg = value_of (givens args); mem = placed (ranges First args) (memory_of_file file) }

-- the registers whose words are shown, rising: each that is given a value, or doesn't hold 0
abbrev pub shown_registers : List Arg → State → List ℕ
shown_registers args t = filter (λ r. is_some (given_to (givens args) r) || not (t.reg r == 0)) (range_with_len 1 31)

-- the answer where a run ends so, in the state t
abbrev pub answer_at : List Arg → State → RunEnd → RunAnswer
answer_at args t (end.Met k) = answer.Met (shown_at args k t.pc (shown_registers args t) (map t.reg (shown_registers args t)) (t.mem ∷ []))
answer_at args t (end.Stuck k why) = answer.Stuck k why
answer_at args t end.Steps = answer.StepsUsed

-- the file is within the limit and has no fault
abbrev pub IsLoaded : List ℕ → Type 0
IsLoaded file = (length file ≤ elf_limit) × IsReadable file

-- What `run` comes to, where the ELF file has these bytes.
abbrev pub RunGives : (file start : List ℕ) (until steps : ℕ) (args : List Arg) → RunAnswer → Type 0
RunGives file start until steps args answer.OverLimit = elf_limit < length file
RunGives file start until steps args (answer.Unreadable why) = (length file ≤ elf_limit) × (fault_of file ≡ Some why)
RunGives file start until steps args (answer.StartRefused name why) = IsLoaded file × (name ≡ start) × StandsFor file start (Err why)
RunGives file start until steps args a =
    IsLoaded file × (at : ℕ) × (t : State) × (how : RunEnd)
    × StandsFor file start (Ok at) × EndsIn until steps (state_given file args at) t how × (a ≡ answer_at args t how)
