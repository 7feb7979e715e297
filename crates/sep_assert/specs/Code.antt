-- Code as bytes at addresses.
use Rattle.std.specs.Prelude.{◌≡◌, ℕ, Some}
use Rattle.rv_words.specs.Bytes.{Bytes}

-- every byte of x is that byte of y
abbrev pub IsWithin : Bytes → Bytes → Type 0
IsWithin x y = (a b : ℕ) → x a ≡ Some b → y a ≡ Some b

-- no address has two different bytes
abbrev pub Agree : Bytes → Bytes → Type 0
Agree x y = (a b c : ℕ) → x a ≡ Some b → y a ≡ Some c → b ≡ c
