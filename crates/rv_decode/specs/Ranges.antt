-- The ranges of an instruction's fields: those of the bits that they have in its word, and the operations that have a
-- form with an immediate.
-- RISC-V Unprivileged ISA 20191213, sections 2.2 and 2.3, chapter 24.
use Rattle.std.specs.Prelude.{ℕ, ◌-◌, ◌%◌, ◌^◌, ◌==◌, ℤ, pos, negsuc, nat_lt, int_le, int_lt, nat_abs, Bool, true, false, ◌&&◌}
use Rattle.rv_words.specs.declared.operation.Op.{Op as Operation}
use Rattle.rv_words.specs.declared.operation.Op.TheVariants.{Add, Sll, Slt, Sltu, Xor, Srl, Sra, Or, And, Addw, Sllw, Srlw, Sraw}
use Rattle.rv_words.specs.declared.width.Width.{Width}
use Rattle.rv_words.specs.declared.width.Width.TheVariants.{B8}
use Rattle.rv_decode.specs.declared.instruction.Instr.{Instr}
use Rattle.rv_decode.specs.declared.instruction.Instr.TheVariants.{Op, OpImm, Lui, Auipc, Jal, Jalr, Branch, Load, Store, Fence, Ecall, Ebreak}

abbrev pub is_register : ℕ → Bool
is_register n = nat_lt n 32

-- a whole number from -2 ^ (k - 1) to 2 ^ (k - 1) - 1
abbrev pub has_bits : ℕ → ℤ → Bool
has_bits k z = int_le (negsuc (2 ^ (k - 1) - 1)) z && int_lt z (pos (2 ^ (k - 1)))

-- an even whole number of k bits
abbrev pub is_offset : ℕ → ℤ → Bool
is_offset k z = has_bits k z && (nat_abs z % 2 == 0)

-- the amount of a shift of n bits
abbrev pub is_amount : ℕ → ℤ → Bool
is_amount n z = int_le (pos 0) z && int_lt z (pos n)

-- the operation has a form with that immediate
abbrev pub takes_immediate : Operation → ℤ → Bool
takes_immediate Add imm = has_bits 12 imm
takes_immediate Slt imm = has_bits 12 imm
takes_immediate Sltu imm = has_bits 12 imm
takes_immediate Xor imm = has_bits 12 imm
takes_immediate Or imm = has_bits 12 imm
takes_immediate And imm = has_bits 12 imm
takes_immediate Sll imm = is_amount 64 imm
takes_immediate Srl imm = is_amount 64 imm
takes_immediate Sra imm = is_amount 64 imm
takes_immediate Addw imm = has_bits 12 imm
takes_immediate Sllw imm = is_amount 32 imm
takes_immediate Srlw imm = is_amount 32 imm
takes_immediate Sraw imm = is_amount 32 imm
takes_immediate o imm = false

-- a load of that width may extend the sign or not; one of eight bytes has no other form
abbrev pub may_load : Width → Bool → Bool
may_load B8 signed = signed
may_load n signed = true

-- all fields are in their ranges
abbrev pub is_encodable : Instr → Bool
is_encodable (Op o d a b) = is_register d && is_register a && is_register b
is_encodable (OpImm o d a imm) = is_register d && is_register a && takes_immediate o imm
is_encodable (Lui d imm) = is_register d && nat_lt imm (2 ^ 20)
is_encodable (Auipc d imm) = is_register d && nat_lt imm (2 ^ 20)
is_encodable (Jal d offset) = is_register d && is_offset 21 offset
is_encodable (Jalr d a imm) = is_register d && is_register a && has_bits 12 imm
is_encodable (Branch c a b offset) = is_register a && is_register b && is_offset 13 offset
is_encodable (Load n s d a imm) = may_load n s && is_register d && is_register a && has_bits 12 imm
is_encodable (Store n a b imm) = is_register a && is_register b && has_bits 12 imm
is_encodable (Fence imm a d) = nat_lt imm (2 ^ 12) && is_register a && is_register d
is_encodable Ecall = true
is_encodable Ebreak = true
