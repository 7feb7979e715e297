-- The fields of an instruction word, a number below 2 ^ 32.
-- RISC-V Unprivileged ISA 20191213, sections 2.2 and 2.3.
use Rattle.std.specs.Prelude.{ℕ, ◌+◌, ◌*◌, ◌/◌, ◌%◌, ◌^◌, ℤ, pos}
use Rattle.rv_words.specs.Operation.{signed_of}

-- the number that `count` bits of w from bit `low` on make
abbrev pub bits : ℕ → ℕ → ℕ → ℕ
bits low count w = w / 2 ^ low % 2 ^ count

-- bits 6 to 0
abbrev pub opcode : ℕ → ℕ
opcode w = bits 0 7 w

-- bits 11 to 7: the destination register
abbrev pub rd : ℕ → ℕ
rd w = bits 7 5 w

-- bits 14 to 12
abbrev pub funct3 : ℕ → ℕ
funct3 w = bits 12 3 w

-- bits 19 to 15: the first source register
abbrev pub rs1 : ℕ → ℕ
rs1 w = bits 15 5 w

-- bits 24 to 20: the second source register
abbrev pub rs2 : ℕ → ℕ
rs2 w = bits 20 5 w

-- bits 31 to 25
abbrev pub funct7 : ℕ → ℕ
funct7 w = bits 25 7 w

-- bits 31 to 26
abbrev pub funct6 : ℕ → ℕ
funct6 w = bits 26 6 w

-- bits 31 to 20
abbrev pub funct12 : ℕ → ℕ
funct12 w = bits 20 12 w

-- bits 25 to 20: the amount of a shift
abbrev pub shift_amount : ℕ → ℤ
shift_amount w = pos (bits 20 6 w)

-- bits 24 to 20: the amount of a shift of the low half
abbrev pub half_shift_amount : ℕ → ℤ
half_shift_amount w = pos (bits 20 5 w)

-- ---- immediates (figure 2.4): from high to low, the word's bits that are the immediate's bits

-- format I, sign-extended: 31 to 20 are 11 to 0
abbrev pub immediate_i : ℕ → ℤ
immediate_i w = signed_of 12 (bits 20 12 w)

-- format S, sign-extended: 31 to 25 are 11 to 5, 11 to 7 are 4 to 0
abbrev pub immediate_s : ℕ → ℤ
immediate_s w = signed_of 12 (2 ^ 5 * bits 25 7 w + bits 7 5 w)

-- format B, sign-extended: 31 is 12, 7 is 11, 30 to 25 are 10 to 5, 11 to 8 are 4 to 1
abbrev pub immediate_b : ℕ → ℤ
immediate_b w = signed_of 13 (2 ^ 12 * bits 31 1 w + 2 ^ 11 * bits 7 1 w + 2 ^ 5 * bits 25 6 w + 2 ^ 1 * bits 8 4 w)

-- format U: 31 to 12, the upper 20 bits
abbrev pub immediate_u : ℕ → ℕ
immediate_u w = bits 12 20 w

-- format J, sign-extended: 31 is 20, 19 to 12 are 19 to 12, 20 is 11, 30 to 21 are 10 to 1
abbrev pub immediate_j : ℕ → ℤ
immediate_j w = signed_of 21 (2 ^ 20 * bits 31 1 w + 2 ^ 12 * bits 12 8 w + 2 ^ 11 * bits 20 1 w + 2 ^ 1 * bits 21 10 w)
