-- The state of the machine (RISC-V Unprivileged ISA 20191213, section 2.1).
use Rattle.std.specs.Prelude.{◌≡◌, ℕ, ◌^◌, ◌<◌, ◌==◌, List, slice_index, None, if◌then◌else◌}
use Rattle.std.specs.Ordering.{nat_cmp}
use Rattle.std.specs.FinMap.{FinMap, get}
use Rattle.rv_words.specs.Bytes.{Bytes, IsMemory, over}

-- what a state holds: the program counter, the 32 registers, and the bytes that are present
pub record Contents : Type 0 where
  pub pc : ℕ
  pub registers : List ℕ
  pub memory : FinMap nat_cmp ℕ

-- the word in a register; x0 is 0
abbrev pub register : List ℕ → ℕ → ℕ
register words r = if r == 0 then 0 else slice_index words r

-- registers after a write; x0 is never written
abbrev pub with_register : ℕ → ℕ → (ℕ → ℕ) → ℕ → ℕ
with_register d x reg r = if d == 0 then reg r else (if r == d then x else reg r)

-- a state: the program counter, the register of each number, and the byte at each address, or none
pub record State : Type 0 where
  pub pc : ℕ
  pub reg : ℕ → ℕ
  pub mem : Bytes

-- the state with those contents
abbrev pub state_of : Contents → State
state_of c = record { pc = c.pc; reg = register c.registers; mem = get c.memory }

-- the state with that program counter, all registers 0 and no bytes
abbrev pub empty_state : ℕ → State
empty_state pc = record { pc = pc; reg = λ r. 0; mem = λ a. None }

-- the state with these bytes put over its own
abbrev pub with_bytes : Bytes → State → State
with_bytes bytes s = record s { mem = over bytes s.mem }

-- the state with other bytes
abbrev pub with_memory : Bytes → State → State
with_memory m s = record s { mem = m }

-- the program counter, the registers and the addresses are words, x0 is 0, and bytes are below 256
pub record IsState (s : State) : Type 0 where
  pub pc : s.pc < 2 ^ 64
  pub x0 : s.reg 0 ≡ 0
  pub words : (r : ℕ) → s.reg r < 2 ^ 64
  pub memory : IsMemory s.mem
