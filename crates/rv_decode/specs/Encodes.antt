-- The word of an instruction, by its format.
-- RISC-V Unprivileged ISA 20191213, sections 2.2 and 2.3 (formats), chapter 24 (fixed fields).
use Rattle.std.specs.Prelude.{ℕ, ◌+◌, ◌-◌, ◌*◌, ◌/◌, ◌%◌, ◌^◌, ℤ, pos, negsuc, Bool, if◌then◌else◌, Option, Some, None, List, [], ◌∷◌}
use Rattle.rv_words.specs.declared.operation.Op.{Op as Operation}
use Rattle.rv_words.specs.declared.operation.Op.TheVariants.{Add, Sub, Sll, Slt, Sltu, Xor, Srl, Sra, Or, And, Mul, Mulh, Mulhsu, Mulhu, Div, Divu, Rem, Remu, Addw, Subw, Sllw, Srlw, Sraw, Mulw, Divw, Divuw, Remw, Remuw}
use Rattle.rv_words.specs.declared.comparison.Cmp.{Cmp}
use Rattle.rv_words.specs.declared.comparison.Cmp.TheVariants.{Eq, Ne, Lt, Ge, Ltu, Geu}
use Rattle.rv_words.specs.declared.width.Width.{Width}
use Rattle.rv_words.specs.declared.width.Width.TheVariants.{B1, B2, B4, B8}
use Rattle.rv_decode.specs.declared.instruction.Instr.{Instr}
use Rattle.rv_decode.specs.declared.instruction.Instr.TheVariants.{Op, OpImm, Lui, Auipc, Jal, Jalr, Branch, Load, Store, Fence, Ecall, Ebreak}
use Rattle.rv_decode.specs.Ranges.{is_encodable}

-- ---- formats (figures 2.2 and 2.3)

-- a field: the number of its bits, and a number whose low bits stand in it
pub record Field : Type 0 where
  pub count : ℕ
  pub value : ℕ

abbrev pub in_bits : ℕ → ℕ → Field
in_bits c v = record { count = c; value = v }

-- the number that fields make, the lowest first
abbrev pub join : List Field → ℕ
join [] = 0
join (f ∷ fs) = f.value % 2 ^ f.count + 2 ^ f.count * join fs

-- the number that 32 bits make, which a whole number is in two's complement
abbrev pub unsigned_of : ℤ → ℕ
unsigned_of (pos n) = n
unsigned_of (negsuc n) = 2 ^ 32 - 1 - n

-- the fields of each format, from bit 0 on; o is the opcode, f the funct3, d, a and b are rd, rs1 and rs2
abbrev pub fields_r : ℕ → ℕ → ℕ → ℕ → ℕ → ℕ → List Field
fields_r o f g d a b = in_bits 7 o ∷ in_bits 5 d ∷ in_bits 3 f ∷ in_bits 5 a ∷ in_bits 5 b ∷ in_bits 7 g ∷ []

abbrev pub fields_i : ℕ → ℕ → ℕ → ℕ → ℕ → List Field
fields_i o f d a n = in_bits 7 o ∷ in_bits 5 d ∷ in_bits 3 f ∷ in_bits 5 a ∷ in_bits 12 n ∷ []

-- format I of a shift of a word: a six-bit amount below the upper six bits
abbrev pub fields_shift : ℕ → ℕ → ℕ → ℕ → ℕ → ℕ → List Field
fields_shift o f g d a n = in_bits 7 o ∷ in_bits 5 d ∷ in_bits 3 f ∷ in_bits 5 a ∷ in_bits 6 n ∷ in_bits 6 g ∷ []

abbrev pub fields_s : ℕ → ℕ → ℕ → ℕ → ℕ → List Field
fields_s o f a b n = in_bits 7 o ∷ in_bits 5 n ∷ in_bits 3 f ∷ in_bits 5 a ∷ in_bits 5 b ∷ in_bits 7 (n / 2 ^ 5) ∷ []

abbrev pub fields_b : ℕ → ℕ → ℕ → ℕ → ℕ → List Field
fields_b o f a b n =
    in_bits 7 o ∷ in_bits 1 (n / 2 ^ 11) ∷ in_bits 4 (n / 2 ^ 1) ∷ in_bits 3 f ∷ in_bits 5 a ∷ in_bits 5 b ∷ in_bits 6 (n / 2 ^ 5) ∷ in_bits 1 (n / 2 ^ 12) ∷ []

abbrev pub fields_u : ℕ → ℕ → ℕ → List Field
fields_u o d n = in_bits 7 o ∷ in_bits 5 d ∷ in_bits 20 n ∷ []

abbrev pub fields_j : ℕ → ℕ → ℕ → List Field
fields_j o d n = in_bits 7 o ∷ in_bits 5 d ∷ in_bits 8 (n / 2 ^ 12) ∷ in_bits 1 (n / 2 ^ 11) ∷ in_bits 10 (n / 2 ^ 1) ∷ in_bits 1 (n / 2 ^ 20) ∷ []

-- ---- the fields of each instruction

abbrev pub op_fields : Operation → ℕ → ℕ → ℕ → List Field
op_fields Add = fields_r 0x33 0 0x00
op_fields Sub = fields_r 0x33 0 0x20
op_fields Sll = fields_r 0x33 1 0x00
op_fields Slt = fields_r 0x33 2 0x00
op_fields Sltu = fields_r 0x33 3 0x00
op_fields Xor = fields_r 0x33 4 0x00
op_fields Srl = fields_r 0x33 5 0x00
op_fields Sra = fields_r 0x33 5 0x20
op_fields Or = fields_r 0x33 6 0x00
op_fields And = fields_r 0x33 7 0x00
op_fields Mul = fields_r 0x33 0 0x01
op_fields Mulh = fields_r 0x33 1 0x01
op_fields Mulhsu = fields_r 0x33 2 0x01
op_fields Mulhu = fields_r 0x33 3 0x01
op_fields Div = fields_r 0x33 4 0x01
op_fields Divu = fields_r 0x33 5 0x01
op_fields Rem = fields_r 0x33 6 0x01
op_fields Remu = fields_r 0x33 7 0x01
op_fields Addw = fields_r 0x3b 0 0x00
op_fields Subw = fields_r 0x3b 0 0x20
op_fields Sllw = fields_r 0x3b 1 0x00
op_fields Srlw = fields_r 0x3b 5 0x00
op_fields Sraw = fields_r 0x3b 5 0x20
op_fields Mulw = fields_r 0x3b 0 0x01
op_fields Divw = fields_r 0x3b 4 0x01
op_fields Divuw = fields_r 0x3b 5 0x01
op_fields Remw = fields_r 0x3b 6 0x01
op_fields Remuw = fields_r 0x3b 7 0x01

-- none where the operation takes no immediate
abbrev pub op_immediate_fields : Operation → ℕ → ℕ → ℕ → List Field
op_immediate_fields Add d a n = fields_i 0x13 0 d a n
op_immediate_fields Slt d a n = fields_i 0x13 2 d a n
op_immediate_fields Sltu d a n = fields_i 0x13 3 d a n
op_immediate_fields Xor d a n = fields_i 0x13 4 d a n
op_immediate_fields Or d a n = fields_i 0x13 6 d a n
op_immediate_fields And d a n = fields_i 0x13 7 d a n
op_immediate_fields Sll d a n = fields_shift 0x13 1 0x00 d a n
op_immediate_fields Srl d a n = fields_shift 0x13 5 0x00 d a n
op_immediate_fields Sra d a n = fields_shift 0x13 5 0x10 d a n
op_immediate_fields Addw d a n = fields_i 0x1b 0 d a n
op_immediate_fields Sllw d a n = fields_r 0x1b 1 0x00 d a n
op_immediate_fields Srlw d a n = fields_r 0x1b 5 0x00 d a n
op_immediate_fields Sraw d a n = fields_r 0x1b 5 0x20 d a n
op_immediate_fields o d a n = []

abbrev pub branch_funct3 : Cmp → ℕ
branch_funct3 Eq = 0
branch_funct3 Ne = 1
branch_funct3 Lt = 4
branch_funct3 Ge = 5
branch_funct3 Ltu = 6
branch_funct3 Geu = 7

abbrev pub width_funct3 : Width → ℕ
width_funct3 B1 = 0
width_funct3 B2 = 1
width_funct3 B4 = 2
width_funct3 B8 = 3

abbrev pub load_funct3 : Width → Bool → ℕ
load_funct3 n s = if s then width_funct3 n else 4 + width_funct3 n

abbrev pub fields_of : Instr → List Field
fields_of (Op o d a b) = op_fields o d a b
fields_of (OpImm o d a imm) = op_immediate_fields o d a (unsigned_of imm)
fields_of (Lui d imm) = fields_u 0x37 d imm
fields_of (Auipc d imm) = fields_u 0x17 d imm
fields_of (Jal d offset) = fields_j 0x6f d (unsigned_of offset)
fields_of (Jalr d a imm) = fields_i 0x67 0 d a (unsigned_of imm)
fields_of (Branch c a b offset) = fields_b 0x63 (branch_funct3 c) a b (unsigned_of offset)
fields_of (Load n s d a imm) = fields_i 0x03 (load_funct3 n s) d a (unsigned_of imm)
fields_of (Store n a b imm) = fields_s 0x23 (width_funct3 n) a b (unsigned_of imm)
fields_of (Fence imm a d) = fields_i 0x0f 0 d a imm
fields_of Ecall = fields_i 0x73 0 0 0 0
fields_of Ebreak = fields_i 0x73 0 0 0 1

-- the word that an instruction's fields make
abbrev pub word_of : Instr → ℕ
word_of i = join (fields_of i)

-- the instruction's word, if its fields are in their ranges
unfoldable pub encoded : Instr → Option ℕ
encoded i = if is_encodable i then Some (word_of i) else None
