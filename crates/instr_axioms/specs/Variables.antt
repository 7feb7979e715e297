-- Variables for the words in registers and for the memory.
use Rattle.std.specs.Prelude.{ℕ, List, slice_index, slice_index_or}
use Rattle.word_terms.specs.Tree.{Var, MemVar}
use Rattle.instr_axioms.specs.declared.variables.Variables.{Variables}
use Rattle.instr_axioms.specs.Terms.{Names}

-- the variable of a register, where these are those of the 32 registers; a number that is none has that of x0
abbrev pub variable_of : List ℕ → ℕ → ℕ
variable_of words r = slice_index_or words r (slice_index words 0)

-- these variables as names
abbrev pub names_of : Variables → Names
names_of v = record { word = λ r. Var (variable_of v.words r); memory = MemVar v.memory }
