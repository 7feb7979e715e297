-- When functions and variables of SMT-LIB stand for operations, and for the variables of terms.
use Rattle.std.specs.Prelude.{◌≡◌, ℕ, ◌<◌, codes, Some, None}
use Rattle.word_terms.specs.Environment.{Environment}
use Rattle.smt_terms.specs.Operators.{Value, Bits}
use Rattle.smt_terms.specs.Meaning.{Variables}
use Rattle.smt_terms.specs.Memory.{IsMemoryOf}
use Rattle.smt_export.specs.declared.told.Told.{Told}
use Rattle.smt_export.specs.Told.{word_name, mem_name, dom_name, fun_name}

-- the names of variables have the variables' values, and other names have none
pub record Tells (e : Environment) (s : Variables) : Type 0 where
  pub words : (i : ℕ) → i < e.words → s (word_name i) ≡ Some (Bits 64 (e.word i))
  pub mems : (i : ℕ) → i < e.mems → (m d : Value) × (s (mem_name i) ≡ Some m) × (s (dom_name i) ≡ Some d) × IsMemoryOf (e.mem i) m d
  pub truth : s (codes "true") ≡ None
  pub functions : (d : ℕ) (t : Told) → s (fun_name d t) ≡ None
