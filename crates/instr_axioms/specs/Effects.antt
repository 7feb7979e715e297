-- What the table says of a step: the machine carries out an instruction exactly where its conditions are true in a form that it
-- has, and then does what its terms say (`law_of_effects`).
use Rattle.std.specs.Prelude.{◌≡◌, ℕ, true, List, [], ◌∷◌, IsTrue, is_some}
use Rattle.std.specs.List.{Contains}
use Rattle.rv_words.specs.Bytes.{Bytes}
use Rattle.rv_decode.specs.declared.instruction.Instr.{Instr}
use Rattle.rv_decode.specs.Registers.{sources, destination}
use Rattle.rv_machine.specs.State.{State, with_register}
use Rattle.rv_machine.specs.Step.{reads}
use Rattle.rv_machine.specs.Update.{mem_after}
use Rattle.rv_machine.specs.Touches.{IsTouched, touched}
use Rattle.word_terms.specs.Tree.{CondTree}
use Rattle.word_terms.specs.Environment.{Environment}
use Rattle.word_terms.specs.Value.{word_value, mem_value, cond_holds}
use Rattle.sep_assert.specs.Code.{IsWithin}
use Rattle.triple_kernel.specs.declared.form.Form.{Form}
use Rattle.instr_axioms.specs.Terms.{Names, has_memory, word_in, conditions, result, pc_after, has_form}

-- the conditions are true
abbrev pub AreTrue : List CondTree → Environment → Type 0
AreTrue [] e = Unit {0}
AreTrue (c ∷ cs) e = IsTrue (cond_holds c e) × AreTrue cs e

-- the names stand for what a state has at the instruction's address, in the registers that it reads, and in the memory that
-- it loads or stores
pub record Fits (i : Instr) (a : ℕ) (n : Names) (e : Environment) (s : State) : Type 0 where
  pub pc : s.pc ≡ a
  pub word : (r : ℕ) → Contains (sources i) r → reads r s ≡ word_value (word_in n r) e
  pub bytes : has_memory i ≡ true → IsWithin (mem_value n.memory e) s.mem

-- each byte that the instruction touches is in the named memory
abbrev pub IsTouchedIn : Instr → State → Bytes → Type 0
IsTouchedIn i s m = (q : ℕ) → IsTouched (touched i s) q → is_some (m q) ≡ true

-- a form that the instruction has, and in which its conditions are true
pub record GoesOn (i : Instr) (n : Names) (e : Environment) : Type 0 where
  pub form : Form
  pub has : has_form i form ≡ true
  pub conditions : AreTrue (conditions i form n) e

-- u is the state after the instruction of k bytes at a in a form that it has, by its terms; the memory is the machine's
pub record IsAfter (i : Instr) (a k : ℕ) (n : Names) (e : Environment) (s u : State) : Type 0 where
  pub on : GoesOn i n e
  pub pc : u.pc ≡ word_value (pc_after i on.form a k n) e
  pub reg : u.reg ≡ with_register (destination i) (word_value (result i a k n) e) s.reg
  pub mem : u.mem ≡ mem_after i s
