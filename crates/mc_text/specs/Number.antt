-- How numbers and bytes are written: each in one way.
use Rattle.std.specs.Prelude.{◌≡◌, ◌≢◌, ℕ, ◌<◌, ◌%◌, ◌^◌, false, Bool, ◌&&◌, ◌||◌, nat_le, nat_lt, List, [], ◌∷◌, ◌++◌, length, take, drop, codes, Option, Some, None, Result, Ok, Err, if◌then◌else◌}
use Rattle.std.specs.List.{AllByRecursion, AllPass}
use Rattle.std.specs.Str.{bytes_eq}
use Rattle.std.specs.Str.Parse.{digits_value}
use Rattle.std.specs.Fmt.{digits}
use Rattle.hex.specs.Hex.{encode_lower, decode_of}
use Rattle.hex.specs.declared.error.FromHexError.{FromHexError}

-- A decimal is std's `decimal`: no leading zero. A hexadecimal number begins with 0x, and lower-case digits.
abbrev pub hex : ℕ → List ℕ
hex n = codes "0x" ++ digits 16 false n

abbrev pub IsNumber : ℕ → Type 0
IsNumber n = n < 2 ^ 64

-- Bytes are written as the hex crate's `encode_lower`: two lower-case digits each, the high four bits first.
-- There is at least one byte.
abbrev pub AreSomeBytes : List ℕ → Type 0
AreSomeBytes bytes = (bytes ≢ []) × AllByRecursion (λ b. b < 256) bytes

-- a digit from 0 to 9 or from a to f
abbrev pub is_hex_digit : ℕ → Bool
is_hex_digit b = (nat_le 48 b && nat_le b 57) || (nat_le 97 b && nat_le b 102)

-- an even, positive number of such digits
pub record AreDigitPairs (text : List ℕ) : Type 0 where
  pub even : length text % 2 ≡ 0
  pub some : text ≢ []
  pub digits : AllPass is_hex_digit text

-- the value that the text is the spelling of, or none where it is the spelling of none
abbrev pub Spelled : {X : Type 0} → (X → Type 0) → (X → List ℕ) → List ℕ → Option X → Type 0
Spelled Fits spelling text (Some x) = Fits x × (text ≡ spelling x)
Spelled {X} Fits spelling text None = (x : X) → Fits x → text ≢ spelling x

-- the number that the digits spell
unfoldable pub number_of : ℕ → List ℕ → Option ℕ
number_of base ds =
    if nat_lt (digits_value base ds) (2 ^ 64) && bytes_eq (digits base false (digits_value base ds)) ds then Some (digits_value base ds) else None

-- the number that 0x and the digits spell
unfoldable pub hex_of : List ℕ → Option ℕ
hex_of text = if bytes_eq (take 2 text) (codes "0x") then number_of 16 (drop 2 text) else None

abbrev pub spelled_by : List ℕ → Result (List ℕ) FromHexError → Option (List ℕ)
spelled_by text (Ok bytes) = if bytes_eq (encode_lower bytes) text then Some bytes else None
spelled_by text (Err e) = None

-- the bytes that the digits spell
unfoldable pub bytes_of_digits : List ℕ → Option (List ℕ)
bytes_of_digits [] = None
bytes_of_digits (b ∷ text) = spelled_by (b ∷ text) (decode_of (b ∷ text))
