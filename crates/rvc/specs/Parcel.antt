-- The fields of a compressed instruction, a number below 2 ^ 16.
-- RISC-V Unprivileged ISA 20191213, sections 16.2 to 16.5.
use Rattle.std.specs.Prelude.{ℕ, ◌+◌, ◌*◌, ◌^◌, ℤ, pos}
use Rattle.rv_words.specs.Operation.{signed_of}
use Rattle.rv_decode.specs.Fields.{bits}

-- bits 1 to 0
abbrev pub quadrant : ℕ → ℕ
quadrant h = bits 0 2 h

-- bits 15 to 13
abbrev pub funct3 : ℕ → ℕ
funct3 h = bits 13 3 h

-- bit 12
abbrev pub funct1 : ℕ → ℕ
funct1 h = bits 12 1 h

-- bits 11 to 10
abbrev pub funct2 : ℕ → ℕ
funct2 h = bits 10 2 h

-- bits 6 to 5
abbrev pub funct2_low : ℕ → ℕ
funct2_low h = bits 5 2 h

-- bits 11 to 7: the destination register, which is the first source too
abbrev pub rd : ℕ → ℕ
rd h = bits 7 5 h

-- bits 6 to 2: the second source register
abbrev pub rs2 : ℕ → ℕ
rs2 h = bits 2 5 h

-- bits 9 to 7, for one of x8 to x15
abbrev pub rs1_short : ℕ → ℕ
rs1_short h = 8 + bits 7 3 h

-- bits 4 to 2, for one of x8 to x15
abbrev pub rs2_short : ℕ → ℕ
rs2_short h = 8 + bits 2 3 h

-- ---- immediates: where the word's bits stand that are the immediate's bits

-- 12 is 5, 6 to 2 are 4 to 0
abbrev pub six_bits : ℕ → ℕ
six_bits h = 2 ^ 5 * bits 12 1 h + bits 2 5 h

-- the same, sign-extended
abbrev pub immediate : ℕ → ℤ
immediate h = signed_of 6 (six_bits h)

-- the same, as the amount of a shift
abbrev pub shift_amount : ℕ → ℤ
shift_amount h = pos (six_bits h)

-- C.ADDI4SPN: 12 to 11 are 5 to 4, 10 to 7 are 9 to 6, 6 is 2, 5 is 3
abbrev pub stack_addend : ℕ → ℕ
stack_addend h = 2 ^ 4 * bits 11 2 h + 2 ^ 6 * bits 7 4 h + 2 ^ 2 * bits 6 1 h + 2 ^ 3 * bits 5 1 h

-- C.ADDI16SP, sign-extended: 12 is 9, 6 is 4, 5 is 6, 4 to 3 are 8 to 7, 2 is 5
abbrev pub stack_step : ℕ → ℤ
stack_step h = signed_of 10 (2 ^ 9 * bits 12 1 h + 2 ^ 4 * bits 6 1 h + 2 ^ 6 * bits 5 1 h + 2 ^ 7 * bits 3 2 h + 2 ^ 5 * bits 2 1 h)

-- C.LW and C.SW: 12 to 10 are 5 to 3, 6 is 2, 5 is 6
abbrev pub offset_4 : ℕ → ℤ
offset_4 h = pos (2 ^ 3 * bits 10 3 h + 2 ^ 2 * bits 6 1 h + 2 ^ 6 * bits 5 1 h)

-- C.LD and C.SD: 12 to 10 are 5 to 3, 6 to 5 are 7 to 6
abbrev pub offset_8 : ℕ → ℤ
offset_8 h = pos (2 ^ 3 * bits 10 3 h + 2 ^ 6 * bits 5 2 h)

-- C.LWSP: 12 is 5, 6 to 4 are 4 to 2, 3 to 2 are 7 to 6
abbrev pub stack_load_4 : ℕ → ℤ
stack_load_4 h = pos (2 ^ 5 * bits 12 1 h + 2 ^ 2 * bits 4 3 h + 2 ^ 6 * bits 2 2 h)

-- C.LDSP: 12 is 5, 6 to 5 are 4 to 3, 4 to 2 are 8 to 6
abbrev pub stack_load_8 : ℕ → ℤ
stack_load_8 h = pos (2 ^ 5 * bits 12 1 h + 2 ^ 3 * bits 5 2 h + 2 ^ 6 * bits 2 3 h)

-- C.SWSP: 12 to 9 are 5 to 2, 8 to 7 are 7 to 6
abbrev pub stack_store_4 : ℕ → ℤ
stack_store_4 h = pos (2 ^ 2 * bits 9 4 h + 2 ^ 6 * bits 7 2 h)

-- C.SDSP: 12 to 10 are 5 to 3, 9 to 7 are 8 to 6
abbrev pub stack_store_8 : ℕ → ℤ
stack_store_8 h = pos (2 ^ 3 * bits 10 3 h + 2 ^ 6 * bits 7 3 h)

-- C.J, sign-extended: 12 is 11, 11 is 4, 10 to 9 are 9 to 8, 8 is 10, 7 is 6, 6 is 7, 5 to 3 are 3 to 1, 2 is 5
abbrev pub jump_offset : ℕ → ℤ
jump_offset h =
    signed_of 12
    (2 ^ 11 * bits 12 1 h + 2 ^ 4 * bits 11 1 h + 2 ^ 8 * bits 9 2 h + 2 ^ 10 * bits 8 1 h + 2 ^ 6 * bits 7 1 h + 2 ^ 7 * bits 6 1 h + 2 ^ 1 * bits 3 3 h + 2 ^ 5 * bits 2 1 h)

-- C.BEQZ and C.BNEZ, sign-extended: 12 is 8, 11 to 10 are 4 to 3, 6 to 5 are 7 to 6, 4 to 3 are 2 to 1, 2 is 5
abbrev pub branch_offset : ℕ → ℤ
branch_offset h = signed_of 9 (2 ^ 8 * bits 12 1 h + 2 ^ 3 * bits 10 2 h + 2 ^ 6 * bits 5 2 h + 2 ^ 1 * bits 3 2 h + 2 ^ 5 * bits 2 1 h)
