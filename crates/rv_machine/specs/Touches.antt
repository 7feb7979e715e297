-- The addresses that the next instruction loads or stores (RISC-V Unprivileged ISA 20191213, section 2.6).
use Rattle.std.specs.Prelude.{◌≡◌, ℕ, ◌+◌, ◌%◌, ◌^◌, ◌<◌, Option, Some, None, ℤ}
use Rattle.rv_words.specs.Bytes.{Bytes, bytes_of}
use Rattle.rv_words.specs.declared.width.Width.{Width}
use Rattle.rv_decode.specs.declared.instruction.Instr.{Instr}
use Rattle.rv_decode.specs.declared.instruction.Instr.TheVariants.{Load, Store}
use Rattle.rv_machine.specs.declared.touch.Touch.{Touch}
use Rattle.rv_machine.specs.State.{State, with_memory}
use Rattle.rv_machine.specs.Step.{instruction_at, length_at, plus, reads, step}

-- no address
abbrev pub nothing : Touch
nothing = record { at = 0; count = 0 }

-- the addresses of a width from a register plus an immediate on
abbrev pub accessed : Width → ℕ → ℤ → State → Touch
accessed w r imm s = record { at = plus (reads r s) imm; count = bytes_of w }

-- what an instruction loads or stores
abbrev pub touched : Instr → State → Touch
touched (Load w signed rd rs1 imm) s = accessed w rs1 imm s
touched (Store w rs1 rs2 imm) s = accessed w rs1 imm s
touched i s = nothing

abbrev pub touched_by : Option Instr → State → Touch
touched_by None s = nothing
touched_by (Some i) s = touched i s

-- what the instruction at pc loads or stores
unfoldable pub touches : State → Touch
touches s = touched_by (instruction_at s) s

-- the address is one of these
abbrev pub IsTouched : Touch → ℕ → Type 0
IsTouched t a = (k : ℕ) × (k < t.count) × (a ≡ (t.at + k) % 2 ^ 64)

-- the addresses of the instruction at pc
abbrev pub fetches : State → Touch
fetches s = record { at = s.pc; count = length_at s }

-- two memories have the same bytes there, or have them not
abbrev pub AreSameOn : Touch → Bytes → Bytes → Type 0
AreSameOn t m w = (q : ℕ) → IsTouched t q → m q ≡ w q

-- the step from s to t, made with the bytes m in place of those of s
pub record IsStepWith (s t : State) (m : Bytes) : Type 0 where
  pub next : State
  pub steps : step (with_memory m s) ≡ Some next
  pub touched : touches (with_memory m s) ≡ touches s
  pub pc : next.pc ≡ t.pc
  pub reg : next.reg ≡ t.reg
  pub mem : (q : ℕ) → m q ≡ s.mem q → next.mem q ≡ t.mem q
