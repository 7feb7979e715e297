-- The table of compressed instructions: a row for each, in the order of the manual's tables.
-- RISC-V Unprivileged ISA 20191213, chapter 16, tables 16.5 to 16.7 at RV64, without those of floating point. A number that
-- the manual calls a hint is the instruction of its row; one that it reserves is none.
use Rattle.std.specs.Prelude.{◌≡◌, ◌<◌, ℕ, ◌%◌, ◌^◌, ◌==◌, Bool, true, not, IsTrue, pos, Option, Some, option_map, option_and_then, List, [], ◌∷◌, Any}
use Rattle.std.specs.List.{find, list_all}
use Rattle.rv_words.specs.Operation.{word_of}
use Rattle.rv_words.specs.declared.operation.Op.{Op as Operation}
use Rattle.rv_words.specs.declared.operation.Op.TheVariants.{Add, Sub, Sll, Xor, Srl, Sra, Or, And, Addw, Subw}
use Rattle.rv_words.specs.declared.comparison.Cmp.TheVariants.{Eq, Ne}
use Rattle.rv_words.specs.declared.width.Width.TheVariants.{B4, B8}
use Rattle.rv_decode.specs.declared.instruction.Instr.{Instr}
use Rattle.rv_decode.specs.declared.instruction.Instr.TheVariants.{Op, OpImm, Lui, Jal, Jalr, Branch, Load, Store, Ebreak}
use Rattle.rv_decode.specs.Encodes.{encoded}
use Rattle.rvc.specs.Parcel.{quadrant, funct3, funct1, funct2, funct2_low, rd, rs2, rs1_short, rs2_short, six_bits, immediate, shift_amount, stack_addend, stack_step, offset_4, offset_8, stack_load_4, stack_load_8, stack_store_4, stack_store_8, jump_offset, branch_offset}

-- the fields on which a row depends
pub data Field : Type 0 where
  Quadrant : Field
  Funct3 : Field
  Funct1 : Field
  Funct2 : Field
  Funct2Low : Field
  Rd : Field
  Rs2 : Field
  SixBits : Field
  StackAddend : Field

abbrev pub value_of : Field → ℕ → ℕ
value_of Quadrant h = quadrant h
value_of Funct3 h = funct3 h
value_of Funct1 h = funct1 h
value_of Funct2 h = funct2 h
value_of Funct2Low h = funct2_low h
value_of Rd h = rd h
value_of Rs2 h = rs2 h
value_of SixBits h = six_bits h
value_of StackAddend h = stack_addend h

-- what a row asks of a field: a value, or another value
pub data Test : Type 0 where
  Is : Field → ℕ → Test
  IsNot : Field → ℕ → Test

abbrev pub holds : ℕ → Test → Bool
holds h (Is f n) = value_of f h == n
holds h (IsNot f n) = not (value_of f h == n)

abbrev pub fits : ℕ → List Test → Bool
fits h tests = list_all (holds h) tests

-- a row: what it asks, and the instruction that a number with this stands for
abbrev pub Row : Type 0
Row = List Test × (ℕ → Instr)

-- a row of a quadrant and a funct3, with what else it asks
abbrev pub row : ℕ → ℕ → List Test → (ℕ → Instr) → Row
row q f more gives = (Is Quadrant q ∷ Is Funct3 f ∷ more, gives)

-- an operation on two registers, the first of which takes the result
abbrev pub op : Operation → ℕ → Instr
op o h = Op o (rs1_short h) (rs1_short h) (rs2_short h)

abbrev pub table : List Row
table =
    -- table 16.5
    -- C.ADDI4SPN
    row 0 0 (IsNot StackAddend 0 ∷ []) (λ h. OpImm Add (rs2_short h) 2 (pos (stack_addend h)))
    -- C.LW, C.LD, C.SW, C.SD
    ∷ row 0 2 [] (λ h. Load B4 true (rs2_short h) (rs1_short h) (offset_4 h))
    ∷ row 0 3 [] (λ h. Load B8 true (rs2_short h) (rs1_short h) (offset_8 h))
    ∷ row 0 6 [] (λ h. Store B4 (rs1_short h) (rs2_short h) (offset_4 h))
    ∷ row 0 7 [] (λ h. Store B8 (rs1_short h) (rs2_short h) (offset_8 h))
    -- table 16.6
    -- C.NOP and C.ADDI, C.ADDIW, C.LI
    ∷ row 1 0 [] (λ h. OpImm Add (rd h) (rd h) (immediate h))
    ∷ row 1 1 (IsNot Rd 0 ∷ []) (λ h. OpImm Addw (rd h) (rd h) (immediate h))
    ∷ row 1 2 [] (λ h. OpImm Add (rd h) 0 (immediate h))
    -- C.ADDI16SP, C.LUI
    ∷ row 1 3 (Is Rd 2 ∷ IsNot SixBits 0 ∷ []) (λ h. OpImm Add 2 2 (stack_step h))
    ∷ row 1 3 (IsNot Rd 2 ∷ IsNot SixBits 0 ∷ []) (λ h. Lui (rd h) (word_of (immediate h) % 2 ^ 20))
    -- C.SRLI, C.SRAI, C.ANDI
    ∷ row 1 4 (Is Funct2 0 ∷ []) (λ h. OpImm Srl (rs1_short h) (rs1_short h) (shift_amount h))
    ∷ row 1 4 (Is Funct2 1 ∷ []) (λ h. OpImm Sra (rs1_short h) (rs1_short h) (shift_amount h))
    ∷ row 1 4 (Is Funct2 2 ∷ []) (λ h. OpImm And (rs1_short h) (rs1_short h) (immediate h))
    -- C.SUB, C.XOR, C.OR, C.AND, C.SUBW, C.ADDW
    ∷ row 1 4 (Is Funct2 3 ∷ Is Funct1 0 ∷ Is Funct2Low 0 ∷ []) (op Sub)
    ∷ row 1 4 (Is Funct2 3 ∷ Is Funct1 0 ∷ Is Funct2Low 1 ∷ []) (op Xor)
    ∷ row 1 4 (Is Funct2 3 ∷ Is Funct1 0 ∷ Is Funct2Low 2 ∷ []) (op Or)
    ∷ row 1 4 (Is Funct2 3 ∷ Is Funct1 0 ∷ Is Funct2Low 3 ∷ []) (op And)
    ∷ row 1 4 (Is Funct2 3 ∷ Is Funct1 1 ∷ Is Funct2Low 0 ∷ []) (op Subw)
    ∷ row 1 4 (Is Funct2 3 ∷ Is Funct1 1 ∷ Is Funct2Low 1 ∷ []) (op Addw)
    -- C.J, C.BEQZ, C.BNEZ
    ∷ row 1 5 [] (λ h. Jal 0 (jump_offset h))
    ∷ row 1 6 [] (λ h. Branch Eq (rs1_short h) 0 (branch_offset h))
    ∷ row 1 7 [] (λ h. Branch Ne (rs1_short h) 0 (branch_offset h))
    -- table 16.7
    -- C.SLLI, C.LWSP, C.LDSP
    ∷ row 2 0 [] (λ h. OpImm Sll (rd h) (rd h) (shift_amount h))
    ∷ row 2 2 (IsNot Rd 0 ∷ []) (λ h. Load B4 true (rd h) 2 (stack_load_4 h))
    ∷ row 2 3 (IsNot Rd 0 ∷ []) (λ h. Load B8 true (rd h) 2 (stack_load_8 h))
    -- C.JR, C.MV
    ∷ row 2 4 (Is Funct1 0 ∷ Is Rs2 0 ∷ IsNot Rd 0 ∷ []) (λ h. Jalr 0 (rd h) (pos 0))
    ∷ row 2 4 (Is Funct1 0 ∷ IsNot Rs2 0 ∷ []) (λ h. Op Add (rd h) 0 (rs2 h))
    -- C.EBREAK, C.JALR, C.ADD
    ∷ row 2 4 (Is Funct1 1 ∷ Is Rs2 0 ∷ Is Rd 0 ∷ []) (λ h. Ebreak)
    ∷ row 2 4 (Is Funct1 1 ∷ Is Rs2 0 ∷ IsNot Rd 0 ∷ []) (λ h. Jalr 1 (rd h) (pos 0))
    ∷ row 2 4 (Is Funct1 1 ∷ IsNot Rs2 0 ∷ []) (λ h. Op Add (rd h) (rd h) (rs2 h))
    -- C.SWSP, C.SDSP
    ∷ row 2 6 [] (λ h. Store B4 2 (rs2 h) (stack_store_4 h))
    ∷ row 2 7 [] (λ h. Store B8 2 (rs2 h) (stack_store_8 h))
    ∷ []

-- a number expands to the word of the instruction that a row gives whose tests it meets
unfoldable pub Expands : ℕ → ℕ → Type 0
Expands h w = (h < 2 ^ 16) × Any (λ (tests, gives). IsTrue (fits h tests) × (encoded (gives h) ≡ Some w)) table

-- the instruction of a compressed number, if there is one: the first row's whose tests it meets
unfoldable pub compressed : ℕ → Option Instr
compressed h = option_map (λ (tests, gives). gives h) (find (λ (tests, gives). fits h tests) table)

-- the word to which it expands
unfoldable pub expanded : ℕ → Option ℕ
expanded h = option_and_then encoded (compressed h)
