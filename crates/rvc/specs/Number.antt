-- What stands at an address: a compressed instruction of two bytes or one of four.
-- RISC-V Unprivileged ISA 20191213, sections 1.5 and 16.2.
use Rattle.std.specs.Prelude.{ℕ, ◌+◌, ◌%◌, ◌^◌, ◌==◌, nat_le, nat_lt, Bool, if◌then◌else◌, Option, Some, None, option_and_then, List}
use Rattle.std.specs.Int.{w16, w32, to_le_bytes}
use Rattle.rv_words.specs.Bytes.{Bytes, inside, load, word_at}
use Rattle.rv_decode.specs.declared.instruction.Instr.{Instr}
use Rattle.rv_decode.specs.Decodes.{decoded}
use Rattle.rvc.specs.Expands.{compressed}

-- the low two bits of a number tell that it is a word and not a parcel of two bytes
abbrev pub is_word : ℕ → Bool
is_word w = w % 4 == 3

-- how many bytes a parcel or a word has
abbrev pub length_of : ℕ → ℕ
length_of w = if is_word w then 4 else 2

-- the number at a: the parcel there, or the word if the parcel tells of one; none where one of its bytes is absent
abbrev pub number_at : Bytes → ℕ → Option ℕ
number_at m a = if inside 2 m a then (if is_word (load 2 m a) then word_at m a else Some (load 2 m a)) else None

-- .. none of whose bytes is past the last address
abbrev pub number_in : Bytes → ℕ → Option ℕ
number_in m a = option_and_then (λ w. if nat_le (a + length_of w) (2 ^ 64) then Some w else None) (number_at m a)

-- the instruction that a parcel or a word is, if it is one
abbrev pub instruction_of : ℕ → Option Instr
instruction_of w = if is_word w then decoded w else (if nat_lt w (2 ^ 16) then compressed w else None)

-- the bytes of a parcel or a word, the low one first
abbrev pub bytes_of : ℕ → List ℕ
bytes_of w = if is_word w then to_le_bytes w32 w else to_le_bytes w16 w
