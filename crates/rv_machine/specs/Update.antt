-- An instruction's test and its update apart, part by part: what `act` says (`law_of_steps`).
use Rattle.std.specs.Prelude.{◌≡◌, ℕ, ◌+◌, ◌%◌, ◌^◌, Bool, true, false, if◌then◌else◌}
use Rattle.rv_words.specs.Bytes.{Bytes, bytes_of, store}
use Rattle.rv_words.specs.Operation.{operation_value, comparison_holds, word_of}
use Rattle.rv_decode.specs.declared.instruction.Instr.{Instr}
use Rattle.rv_decode.specs.declared.instruction.Instr.TheVariants.{Op, OpImm, Lui, Auipc, Jal, Jalr, Branch, Load, Store, Fence, Ecall, Ebreak}
use Rattle.rv_decode.specs.Registers.{is_read}
use Rattle.rv_machine.specs.State.{State, with_register}
use Rattle.rv_machine.specs.Step.{has, jump_target, loaded, next, plus, reads, upper}

-- the instruction can be carried out
abbrev pub is_possible : Instr → State → Bool
is_possible (Op o rd rs1 rs2) s = true
is_possible (OpImm o rd rs1 imm) s = true
is_possible (Lui rd imm) s = true
is_possible (Auipc rd imm) s = true
is_possible (Jal rd offset) s = true
is_possible (Jalr rd rs1 imm) s = true
is_possible (Branch c rs1 rs2 offset) s = true
is_possible (Load w signed rd rs1 imm) s = has w s.mem (plus (reads rs1 s) imm)
is_possible (Store w rs1 rs2 imm) s = has w s.mem (plus (reads rs1 s) imm)
is_possible (Fence imm rs1 rd) s = true
is_possible Ecall s = false
is_possible Ebreak s = false

-- the program counter after an instruction of n bytes
abbrev pub pc_after : Instr → ℕ → State → ℕ
pc_after (Jal rd offset) n s = plus s.pc offset
pc_after (Jalr rd rs1 imm) n s = jump_target (reads rs1 s) imm
pc_after (Branch c rs1 rs2 offset) n s = if comparison_holds c (reads rs1 s) (reads rs2 s) then plus s.pc offset else next n s
pc_after i n s = next n s

-- the registers after it
abbrev pub reg_after : Instr → ℕ → State → ℕ → ℕ
reg_after (Op o rd rs1 rs2) n s = with_register rd (operation_value o (reads rs1 s) (reads rs2 s)) s.reg
reg_after (OpImm o rd rs1 imm) n s = with_register rd (operation_value o (reads rs1 s) (word_of imm)) s.reg
reg_after (Lui rd imm) n s = with_register rd (upper imm) s.reg
reg_after (Auipc rd imm) n s = with_register rd ((s.pc + upper imm) % 2 ^ 64) s.reg
reg_after (Jal rd offset) n s = with_register rd (next n s) s.reg
reg_after (Jalr rd rs1 imm) n s = with_register rd (next n s) s.reg
reg_after (Load w signed rd rs1 imm) n s = with_register rd (loaded w signed s.mem (plus (reads rs1 s) imm)) s.reg
reg_after i n s = s.reg

-- the bytes after it
abbrev pub mem_after : Instr → State → Bytes
mem_after (Store w rs1 rs2 imm) s = store (bytes_of w) s.mem (plus (reads rs1 s) imm) (reads rs2 s)
mem_after i s = s.mem

-- the state after it
abbrev pub updated : Instr → ℕ → State → State
updated i n s = record { pc = pc_after i n s; reg = reg_after i n s; mem = mem_after i s }

-- two states that an instruction can't tell apart: the same program counter, bytes and words that it reads
pub record HaveSame (i : Instr) (s u : State) : Type 0 where
  pub pc : u.pc ≡ s.pc
  pub mem : u.mem ≡ s.mem
  pub read : (r : ℕ) → is_read i r ≡ true → reads r u ≡ reads r s
