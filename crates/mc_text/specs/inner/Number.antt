-- Numbers to any base, as they are read.
use Rattle.std.specs.Prelude.{◌≡◌, ℕ, ◌<◌, ◌^◌, Bool, false, ◌&&◌, nat_lt, ◌==◌, List, length, slice_index, Option, Some, None, Result, Ok, Err}
use Rattle.std.specs.List.{AllPass}
use Rattle.std.specs.Char.{digit_value}
use Rattle.std.specs.Str.Parse.{digits_value}
use Rattle.std.specs.Fmt.{digit_glyph}
use Rattle.hex.specs.declared.error.FromHexError.{FromHexError}
use Rattle.mc_text.specs.declared.number.Base.{Base}
use Rattle.mc_text.specs.declared.number.Base.TheVariants.{Decimal, Hexadecimal}

-- ---- the same by computing

abbrev pub base_number : Base → ℕ
base_number Decimal = 10
base_number Hexadecimal = 16

-- a digit below the base, of which letters are in lower case
abbrev pub is_digit_of : ℕ → ℕ → Bool
is_digit_of base c = nat_lt (digit_value c) base && (digit_glyph false (digit_value c) == c)

-- a zero in front of another digit
abbrev pub is_padded : List ℕ → Bool
is_padded ds = nat_lt 1 (length ds) && (slice_index ds 0 == 48)

-- the number of such digits, if it fits
abbrev pub ReadsDigits : ℕ → List ℕ → Option ℕ → Type 0
ReadsDigits base ds (Some n) = AllPass (is_digit_of base) ds × (n ≡ digits_value base ds) × (n < 2 ^ 64)
ReadsDigits base ds None = AllPass (is_digit_of base) ds → digits_value base ds < 2 ^ 64 → ⊥

-- what decoding gives, if anything
abbrev pub value_of : Result (List ℕ) FromHexError → Option (List ℕ)
value_of (Ok bytes) = Some bytes
value_of (Err e) = None
