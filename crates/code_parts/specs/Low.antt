-- Variables with low numbers.
use Rattle.std.specs.Prelude.{ℕ, ◌≤◌, List}
use Rattle.instr_axioms.specs.Variables.{variable_of}

-- the variables of registers and of a memory have numbers up to those of the next ones
pub record AreLow (words mems : ℕ) (regs : List ℕ) (memory : ℕ) : Type 0 where
  pub word : (r : ℕ) → variable_of regs r ≤ words
  pub memory_low : memory ≤ mems
