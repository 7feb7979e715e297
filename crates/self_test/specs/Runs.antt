-- Runs of the machine through drawn code.
use Rattle.std.specs.Prelude.{◌≡◌, ◌≢◌, ℕ, ◌+◌, ◌-◌, ◌*◌, ◌<◌, ◌≤◌, Some, length}
use Rattle.rv_machine.specs.State.{State}
use Rattle.rv_machine.specs.Touches.{touches, IsTouched}
use Rattle.rv_machine.specs.Run.{run, EndsIn, IsAtReturn}
use Rattle.rv_machine.specs.declared.running.RunEnd.TheVariants as end
use Rattle.code_gen.specs.Pieces.{Pieces}
use Rattle.code_gen.specs.Program.{code, instructions}
use Rattle.code_gen.specs.Structure.{EachAt, IsWordAt, most_steps}
use Rattle.code_gen.specs.ElfFile.{start}

-- a run from s through the code of pieces at depth d, which stands from a on, to the state t right behind it
pub record IsPassage (d : ℕ) (p : Pieces) (a : ℕ) (s t : State) (k : ℕ) : Type 0 where
  pub ran : run s k ≡ Some t
  pub few : k ≤ most_steps p
  pub pc : t.pc ≡ a + 4 * length (code d p)
  pub mem : t.mem ≡ s.mem
  pub kept : (r : ℕ) → r ≢ 10 → r < 12 + d → t.reg r ≡ s.reg r

abbrev pub PassesThrough : ℕ → Pieces → ℕ → State → Type 0
PassesThrough d p a s = (t : State) × (k : ℕ) × IsPassage d p a s t k

-- the address to which a program is to return
abbrev pub behind : ℕ
behind = 0x20000

-- the state in which a program begins: its words stand in memory, and it is to return
pub record StartsProgram (number size : ℕ) (s : State) : Type 0 where
  pub pc : s.pc ≡ start
  pub code : EachAt (IsWordAt s.mem start) 0 (instructions number size)
  pub returns : s.reg 1 ≡ behind

-- the next step neither loads nor stores
abbrev pub TouchesNothing : State → Type 0
TouchesNothing s = (a : ℕ) → IsTouched (touches s) a → ⊥

-- The machine meets that address, for the first time after at most 512 steps for each of the size and one. The last of them alone is a
-- return, and none loads or stores.
pub record Returns (size : ℕ) (s : State) : Type 0 where
  pub last : State
  pub steps : ℕ
  pub some : 0 < steps
  pub few : steps ≤ 512 * size + 1
  pub meets : (most : ℕ) → steps ≤ most → EndsIn behind most s last (end.Met steps)
  pub mem : last.mem ≡ s.mem
  pub untouched : (j : ℕ) (u : State) → j < steps → run s j ≡ Some u → TouchesNothing u
  pub returns : (u : State) → run s (steps - 1) ≡ Some u → IsAtReturn u
  pub first : (j : ℕ) (u : State) → j < steps - 1 → run s j ≡ Some u → IsAtReturn u → ⊥
