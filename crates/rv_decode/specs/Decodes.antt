-- The table of instructions: a row for each, as in the manual.
-- RISC-V Unprivileged ISA 20191213, chapter 24 (RV32I and RV64I base instruction sets, RV32M and RV64M).
use Rattle.std.specs.Prelude.{◌≡◌, ◌<◌, ℕ, ◌^◌, ◌==◌, Bool, true, false, ◌&&◌, IsTrue, Option, option_map, List, [], ◌∷◌, Any}
use Rattle.std.specs.List.{find}
use Rattle.rv_words.specs.declared.operation.Op.{Op as Operation}
use Rattle.rv_words.specs.declared.operation.Op.TheVariants.{Add, Sub, Sll, Slt, Sltu, Xor, Srl, Sra, Or, And, Mul, Mulh, Mulhsu, Mulhu, Div, Divu, Rem, Remu, Addw, Subw, Sllw, Srlw, Sraw, Mulw, Divw, Divuw, Remw, Remuw}
use Rattle.rv_words.specs.declared.comparison.Cmp.{Cmp}
use Rattle.rv_words.specs.declared.comparison.Cmp.TheVariants.{Eq, Ne, Lt, Ge, Ltu, Geu}
use Rattle.rv_words.specs.declared.width.Width.{Width}
use Rattle.rv_words.specs.declared.width.Width.TheVariants.{B1, B2, B4, B8}
use Rattle.rv_decode.specs.declared.instruction.Instr.{Instr}
use Rattle.rv_decode.specs.declared.instruction.Instr.TheVariants.{Op, OpImm, Lui, Auipc, Jal, Jalr, Branch, Load, Store, Fence, Ecall, Ebreak}
use Rattle.rv_decode.specs.Fields.{bits, opcode, rd, funct3, rs1, rs2, funct7, funct6, funct12, shift_amount, half_shift_amount, immediate_i, immediate_s, immediate_b, immediate_u, immediate_j}

-- the values of a row's fixed fields: the opcode, and with it a funct3, and with that a funct7, the upper six or the upper twelve bits
pub data Fixed : Type 0 where
  Opcode : (o : ℕ) → Fixed
  Funct3 : (o f : ℕ) → Fixed
  Funct7 : (o f g : ℕ) → Fixed
  Funct6 : (o f g : ℕ) → Fixed
  Funct12 : (o f g : ℕ) → Fixed

-- the word has them; where the upper twelve bits are fixed its registers are 0, so that it is one word
abbrev pub fits : ℕ → Fixed → Bool
fits w (Opcode o) = opcode w == o
fits w (Funct3 o f) = opcode w == o && funct3 w == f
fits w (Funct7 o f g) = opcode w == o && funct3 w == f && funct7 w == g
fits w (Funct6 o f g) = opcode w == o && funct3 w == f && funct6 w == g
fits w (Funct12 o f g) = opcode w == o && funct3 w == f && funct12 w == g && rs1 w == 0 && rd w == 0

-- an operation on two registers
abbrev pub op : Operation → ℕ → Instr
op o w = Op o (rd w) (rs1 w) (rs2 w)

-- an operation on a register and the immediate of format I
abbrev pub op_immediate : Operation → ℕ → Instr
op_immediate o w = OpImm o (rd w) (rs1 w) (immediate_i w)

-- a shift of a register by a fixed amount
abbrev pub shift_immediate : Operation → ℕ → Instr
shift_immediate o w = OpImm o (rd w) (rs1 w) (shift_amount w)

-- a shift of a register's low half by a fixed amount
abbrev pub half_shift_immediate : Operation → ℕ → Instr
half_shift_immediate o w = OpImm o (rd w) (rs1 w) (half_shift_amount w)

abbrev pub branch : Cmp → ℕ → Instr
branch c w = Branch c (rs1 w) (rs2 w) (immediate_b w)

-- a load of that width, which extends the sign or not
abbrev pub load : Width → Bool → ℕ → Instr
load n s w = Load n s (rd w) (rs1 w) (immediate_i w)

abbrev pub store : Width → ℕ → Instr
store n w = Store n (rs1 w) (rs2 w) (immediate_s w)

-- the rows: the fixed fields, and the instruction that a word with these is; the other fields of a fence are any
abbrev pub table : List (Fixed × (ℕ → Instr))
table =
    -- RV32I
    (Opcode 0x37, λ w. Lui (rd w) (immediate_u w))
    ∷ (Opcode 0x17, λ w. Auipc (rd w) (immediate_u w))
    ∷ (Opcode 0x6f, λ w. Jal (rd w) (immediate_j w))
    ∷ (Funct3 0x67 0, λ w. Jalr (rd w) (rs1 w) (immediate_i w))
    ∷ (Funct3 0x63 0, branch Eq)
    ∷ (Funct3 0x63 1, branch Ne)
    ∷ (Funct3 0x63 4, branch Lt)
    ∷ (Funct3 0x63 5, branch Ge)
    ∷ (Funct3 0x63 6, branch Ltu)
    ∷ (Funct3 0x63 7, branch Geu)
    ∷ (Funct3 0x03 0, load B1 true)
    ∷ (Funct3 0x03 1, load B2 true)
    ∷ (Funct3 0x03 2, load B4 true)
    ∷ (Funct3 0x03 4, load B1 false)
    ∷ (Funct3 0x03 5, load B2 false)
    ∷ (Funct3 0x23 0, store B1)
    ∷ (Funct3 0x23 1, store B2)
    ∷ (Funct3 0x23 2, store B4)
    ∷ (Funct3 0x13 0, op_immediate Add)
    ∷ (Funct3 0x13 2, op_immediate Slt)
    ∷ (Funct3 0x13 3, op_immediate Sltu)
    ∷ (Funct3 0x13 4, op_immediate Xor)
    ∷ (Funct3 0x13 6, op_immediate Or)
    ∷ (Funct3 0x13 7, op_immediate And)
    ∷ (Funct7 0x33 0 0x00, op Add)
    ∷ (Funct7 0x33 0 0x20, op Sub)
    ∷ (Funct7 0x33 1 0x00, op Sll)
    ∷ (Funct7 0x33 2 0x00, op Slt)
    ∷ (Funct7 0x33 3 0x00, op Sltu)
    ∷ (Funct7 0x33 4 0x00, op Xor)
    ∷ (Funct7 0x33 5 0x00, op Srl)
    ∷ (Funct7 0x33 5 0x20, op Sra)
    ∷ (Funct7 0x33 6 0x00, op Or)
    ∷ (Funct7 0x33 7 0x00, op And)
    ∷ (Funct3 0x0f 0, λ w. Fence (bits 20 12 w) (rs1 w) (rd w))
    ∷ (Funct12 0x73 0 0, λ w. Ecall)
    ∷ (Funct12 0x73 0 1, λ w. Ebreak)
    -- RV64I
    ∷ (Funct3 0x03 6, load B4 false)
    ∷ (Funct3 0x03 3, load B8 true)
    ∷ (Funct3 0x23 3, store B8)
    ∷ (Funct6 0x13 1 0x00, shift_immediate Sll)
    ∷ (Funct6 0x13 5 0x00, shift_immediate Srl)
    ∷ (Funct6 0x13 5 0x10, shift_immediate Sra)
    ∷ (Funct3 0x1b 0, op_immediate Addw)
    ∷ (Funct7 0x1b 1 0x00, half_shift_immediate Sllw)
    ∷ (Funct7 0x1b 5 0x00, half_shift_immediate Srlw)
    ∷ (Funct7 0x1b 5 0x20, half_shift_immediate Sraw)
    ∷ (Funct7 0x3b 0 0x00, op Addw)
    ∷ (Funct7 0x3b 0 0x20, op Subw)
    ∷ (Funct7 0x3b 1 0x00, op Sllw)
    ∷ (Funct7 0x3b 5 0x00, op Srlw)
    ∷ (Funct7 0x3b 5 0x20, op Sraw)
    -- RV32M
    ∷ (Funct7 0x33 0 0x01, op Mul)
    ∷ (Funct7 0x33 1 0x01, op Mulh)
    ∷ (Funct7 0x33 2 0x01, op Mulhsu)
    ∷ (Funct7 0x33 3 0x01, op Mulhu)
    ∷ (Funct7 0x33 4 0x01, op Div)
    ∷ (Funct7 0x33 5 0x01, op Divu)
    ∷ (Funct7 0x33 6 0x01, op Rem)
    ∷ (Funct7 0x33 7 0x01, op Remu)
    -- RV64M
    ∷ (Funct7 0x3b 0 0x01, op Mulw)
    ∷ (Funct7 0x3b 4 0x01, op Divw)
    ∷ (Funct7 0x3b 5 0x01, op Divuw)
    ∷ (Funct7 0x3b 6 0x01, op Remw)
    ∷ (Funct7 0x3b 7 0x01, op Remuw)
    ∷ []

-- a word decodes to the instruction that a row gives whose fixed fields it has
unfoldable pub Decodes : ℕ → Instr → Type 0
Decodes w i = Any (λ (fixed, gives). IsTrue (fits w fixed) × (gives w ≡ i)) table

-- a word has at most one instruction, and an instruction at most one word
abbrev pub IsOneToOne : Type 0
IsOneToOne =
    ((w : ℕ) (i j : Instr) → Decodes w i → Decodes w j → i ≡ j)
    × ((w v : ℕ) (i : Instr) → w < 2 ^ 32 → v < 2 ^ 32 → Decodes w i → Decodes v i → w ≡ v)

-- the instruction that a word decodes to, if there is one: the first row's whose fixed fields it has
unfoldable pub decoded : ℕ → Option Instr
decoded w = option_map (λ (fixed, gives). gives w) (find (λ (fixed, gives). fits w fixed) table)

-- the registers of an instruction are among the 32
abbrev pub NamesRegisters : Instr → Type 0
NamesRegisters (Op o d a b) = (d < 32) × (a < 32) × (b < 32)
NamesRegisters (OpImm o d a imm) = (d < 32) × (a < 32)
NamesRegisters (Lui d imm) = d < 32
NamesRegisters (Auipc d imm) = d < 32
NamesRegisters (Jal d offset) = d < 32
NamesRegisters (Jalr d a imm) = (d < 32) × (a < 32)
NamesRegisters (Branch c a b offset) = (a < 32) × (b < 32)
NamesRegisters (Load n s d a imm) = (d < 32) × (a < 32)
NamesRegisters (Store n a b imm) = (a < 32) × (b < 32)
NamesRegisters (Fence imm a d) = (a < 32) × (d < 32)
NamesRegisters Ecall = Unit {0}
NamesRegisters Ebreak = Unit {0}
