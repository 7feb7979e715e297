-- The values of the operations, on words: numbers below 2 ^ 64.
-- RISC-V Unprivileged ISA 20191213, sections 2.4 to 2.6, 5.2, 5.3, 7.1 and 7.2.
use Rattle.std.specs.Prelude.{ℕ, zero, ◌+◌, ◌-◌, ◌*◌, ◌/◌, ◌%◌, ◌^◌, ◌==◌, List, codes, ℤ, pos, negsuc, ◌-ℤ◌, ◌*ℤ◌, nat_lt, nat_le, int_lt, int_le, int_div, int_rem, Bool, not, if◌then◌else◌, bit_and, bit_or, bit_xor}
use Rattle.rv_words.specs.declared.operation.Op.{Op}
use Rattle.rv_words.specs.declared.operation.Op.TheVariants.{Add, Sub, Sll, Slt, Sltu, Xor, Srl, Sra, Or, And, Mul, Mulh, Mulhsu, Mulhu, Div, Divu, Rem, Remu, Addw, Subw, Sllw, Srlw, Sraw, Mulw, Divw, Divuw, Remw, Remuw}
use Rattle.rv_words.specs.declared.extension.Ext.{Ext}
use Rattle.rv_words.specs.declared.extension.Ext.TheVariants.{Sx1, Sx2, Sx4}
use Rattle.rv_words.specs.declared.comparison.Cmp.{Cmp}
use Rattle.rv_words.specs.declared.comparison.Cmp.TheVariants.{Eq, Ne, Lt, Ge, Ltu, Geu}

-- the whole number that k bits are in two's complement
abbrev pub signed_of : ℕ → ℕ → ℤ
signed_of k n = if nat_lt n (2 ^ (k - 1)) then pos n else pos n -ℤ pos (2 ^ k)

-- the whole number that a word is in two's complement
abbrev pub signed : ℕ → ℤ
signed a = signed_of 64 a

-- a whole number modulo 2 ^ 64
abbrev pub word_of : ℤ → ℕ
word_of (pos n) = n % 2 ^ 64
word_of (negsuc n) = 2 ^ 64 - 1 - n % 2 ^ 64

-- a whole number divided by another from 1 on, rounded down
abbrev pub floor_of : ℤ → ℕ → ℤ
floor_of (pos n) d = pos (n / d)
floor_of (negsuc n) d = negsuc (n / d)

-- the quotient rounded towards zero; by zero -1, whose bits are all ones
abbrev pub quotient : ℤ → ℤ → ℤ
quotient a (pos zero) = negsuc 0
quotient a b = int_div a b

-- the remainder with the sign of the dividend; by zero the dividend
abbrev pub remainder : ℤ → ℤ → ℤ
remainder a (pos zero) = a
remainder a b = int_rem a b

-- 1 where the test is true, else 0
abbrev pub flag : Bool → ℕ
flag b = if b then 1 else 0

-- by how many bits b shifts a word: its low six bits
abbrev pub amount : ℕ → ℕ
amount b = b % 2 ^ 6

-- by how many bits b shifts the low half of a word: its low five bits
abbrev pub half_amount : ℕ → ℕ
half_amount b = b % 2 ^ 5

-- the low half of a word, and the whole number that it is in two's complement
abbrev pub low : ℕ → ℕ
low a = a % 2 ^ 32

abbrev pub signed_low : ℕ → ℤ
signed_low a = signed_of 32 (low a)

-- the low k bits of a number, their sign extended to a word
abbrev pub extended : ℕ → ℕ → ℕ
extended k a = word_of (signed_of k (a % 2 ^ k))

-- the operations, a row each: the mnemonic, and the value on words a and b
abbrev pub operation : Op → List ℕ × (ℕ → ℕ → ℕ)
operation Add = (codes "add", λ a b. (a + b) % 2 ^ 64)
operation Sub = (codes "sub", λ a b. (a + (2 ^ 64 - b)) % 2 ^ 64)
operation Sll = (codes "sll", λ a b. a * 2 ^ amount b % 2 ^ 64)
operation Slt = (codes "slt", λ a b. flag (int_lt (signed a) (signed b)))
operation Sltu = (codes "sltu", λ a b. flag (nat_lt a b))
operation Xor = (codes "xor", λ a b. bit_xor a b)
operation Srl = (codes "srl", λ a b. a / 2 ^ amount b)
operation Sra = (codes "sra", λ a b. word_of (floor_of (signed a) (2 ^ amount b)))
operation Or = (codes "or", λ a b. bit_or a b)
operation And = (codes "and", λ a b. bit_and a b)
operation Mul = (codes "mul", λ a b. a * b % 2 ^ 64)
operation Mulh = (codes "mulh", λ a b. word_of (floor_of (signed a *ℤ signed b) (2 ^ 64)))
operation Mulhsu = (codes "mulhsu", λ a b. word_of (floor_of (signed a *ℤ pos b) (2 ^ 64)))
operation Mulhu = (codes "mulhu", λ a b. word_of (floor_of (pos a *ℤ pos b) (2 ^ 64)))
operation Div = (codes "div", λ a b. word_of (quotient (signed a) (signed b)))
operation Divu = (codes "divu", λ a b. word_of (quotient (pos a) (pos b)))
operation Rem = (codes "rem", λ a b. word_of (remainder (signed a) (signed b)))
operation Remu = (codes "remu", λ a b. word_of (remainder (pos a) (pos b)))
operation Addw = (codes "addw", λ a b. extended 32 (low a + low b))
operation Subw = (codes "subw", λ a b. extended 32 (low a + (2 ^ 32 - low b)))
operation Sllw = (codes "sllw", λ a b. extended 32 (low a * 2 ^ half_amount b))
operation Srlw = (codes "srlw", λ a b. extended 32 (low a / 2 ^ half_amount b))
operation Sraw = (codes "sraw", λ a b. word_of (floor_of (signed_low a) (2 ^ half_amount b)))
operation Mulw = (codes "mulw", λ a b. extended 32 (low a * low b))
operation Divw = (codes "divw", λ a b. extended 32 (word_of (quotient (signed_low a) (signed_low b))))
operation Divuw = (codes "divuw", λ a b. extended 32 (word_of (quotient (pos (low a)) (pos (low b)))))
operation Remw = (codes "remw", λ a b. extended 32 (word_of (remainder (signed_low a) (signed_low b))))
operation Remuw = (codes "remuw", λ a b. extended 32 (word_of (remainder (pos (low a)) (pos (low b)))))

abbrev pub operation_name : Op → List ℕ
operation_name o = (operation o).0

-- the operation's value on a and b
abbrev pub operation_value : Op → ℕ → ℕ → ℕ
operation_value o = (operation o).1

-- the low 1, 2 or 4 bytes of a word, their sign extended
abbrev pub extension_value : Ext → ℕ → ℕ
extension_value Sx1 a = extended 8 a
extension_value Sx2 a = extended 16 a
extension_value Sx4 a = extended 32 a

-- the comparisons likewise: the mnemonic, and the test of words a and b
abbrev pub comparison : Cmp → List ℕ × (ℕ → ℕ → Bool)
comparison Eq = (codes "eq", λ a b. a == b)
comparison Ne = (codes "ne", λ a b. not (a == b))
comparison Lt = (codes "lt", λ a b. int_lt (signed a) (signed b))
comparison Ge = (codes "ge", λ a b. int_le (signed b) (signed a))
comparison Ltu = (codes "ltu", λ a b. nat_lt a b)
comparison Geu = (codes "geu", λ a b. nat_le b a)

abbrev pub comparison_name : Cmp → List ℕ
comparison_name c = (comparison c).0

-- the comparison is true of a and b
abbrev pub comparison_holds : Cmp → ℕ → ℕ → Bool
comparison_holds c = (comparison c).1
