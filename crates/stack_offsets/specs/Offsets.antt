-- Which registers point into the stack of a function: their words are the word that x2 has at its entry, plus an offset. Offsets are words, and
-- sums are modulo 2 ^ 64.
use Rattle.std.specs.Prelude.{◌≡◌, ℕ, ◌+◌, ◌%◌, ◌^◌, ◌==◌, if◌then◌else◌, Option, Some, None, option_map, Ok, false}
use Rattle.std.specs.List.{Contains}
use Rattle.rv_words.specs.Bytes.{Bytes}
use Rattle.rv_words.specs.Operation.{word_of}
use Rattle.rv_words.specs.declared.operation.Op.TheVariants.{Add}
use Rattle.rv_decode.specs.declared.instruction.Instr.{Instr}
use Rattle.rv_decode.specs.declared.instruction.Instr.TheVariants.{Op, OpImm, Load, Store}
use Rattle.rv_decode.specs.Registers.{destination}
use Rattle.flow_graph.specs.Flow.{length_in, look, targets}

-- the offset of each register that has one
abbrev pub Offsets : Type 0
Offsets = ℕ → Option ℕ

-- at the entry x2 has offset 0, and no other register has one
abbrev pub entry_offsets : Offsets
entry_offsets r = if r == 2 then Some 0 else None

-- what an instruction gives the register that it writes: `addi` the offset of rs1 plus the immediate, `add` with x0 as one operand the offset of
-- the other operand; where that register has none, and at any other instruction, none
abbrev pub given_offset : Instr → Offsets → Option ℕ
given_offset (OpImm Add rd rs1 imm) o = option_map (λ c. (c + word_of imm) % 2 ^ 64) (o rs1)
given_offset (Op Add rd rs1 rs2) o = if rs1 == 0 then o rs2 else (if rs2 == 0 then o rs1 else None)
given_offset i o = None

-- the offsets after an instruction; x0 is never written, and so never has one
abbrev pub offsets_after : Instr → Offsets → Offsets
offsets_after i o r = if destination i == 0 then o r else (if r == destination i then given_offset i o else o r)

-- offsets followed along a walk from e to a, where `Leads a i b` says that the instruction i leads from a to b
pub data IsFollowed (Leads : ℕ → Instr → ℕ → Type 0) (e : ℕ) : ℕ → Offsets → Type 0 where
  AtEntry : IsFollowed Leads e e entry_offsets
  Behind : (a b : ℕ) (i : Instr) (o : Offsets) → IsFollowed Leads e a o → Leads a i b → IsFollowed Leads e b (offsets_after i o)

-- every walk from e to a gives the register r the offset c
abbrev pub HasOffset : (ℕ → Instr → ℕ → Type 0) → (e a r c : ℕ) → Type 0
HasOffset Leads e a r c = (o : Offsets) → IsFollowed Leads e a o → o r ≡ Some c

-- ---- the accesses of a function

-- the instruction i of the function leads from a to b
abbrev pub LeadsIn : Bytes → ℕ → Instr → ℕ → Type 0
LeadsIn code a i b = (look false code a ≡ Ok i) × Contains (targets a (length_in code a) i) b

-- the register from which an instruction loads, or to which it stores
abbrev pub base_of : Instr → Option ℕ
base_of (Load w signed rd rs1 imm) = Some rs1
base_of (Store w rs1 rs2 imm) = Some rs1
base_of i = None

-- the instruction at a of the function with entry e loads from a register that has an offset there, or stores to one
pub record IsStackAccess (code : Bytes) (e a : ℕ) : Type 0 where
  pub instruction : Instr
  pub is : look false code a ≡ Ok instruction
  pub base : ℕ
  pub has_base : base_of instruction ≡ Some base
  pub offset : ℕ
  pub has_offset : HasOffset (LeadsIn code) e a base offset
