-- Bytes at addresses: each address below 2 ^ 64 has a byte or none. Numbers lie in them with the low byte first
-- (RISC-V Unprivileged ISA 20191213, section 1.4).
use Rattle.std.specs.Prelude.{◌≡◌, ℕ, zero, suc, ◌<◌, ◌+◌, ◌-◌, ◌*◌, ◌/◌, ◌%◌, ◌^◌, ◌==◌, nat_le, Bool, true, ◌&&◌, if◌then◌else◌, Option, Some, None, is_some, option_map, unwrap_or, List, [], ◌∷◌, length, slice_get}
use Rattle.std.specs.Option.{option_or}
use Rattle.rv_words.specs.declared.width.Width.{Width}
use Rattle.rv_words.specs.declared.width.Width.TheVariants.{B1, B2, B4, B8}

-- the byte at each address, or none
abbrev pub Bytes : Type 0
Bytes = ℕ → Option ℕ

-- each byte is below 256
abbrev pub AreBytes : Bytes → Type 0
AreBytes m = (a b : ℕ) → m a ≡ Some b → b < 256

-- each byte is below 256, and each address that is present below 2 ^ 64
pub record IsMemory (m : Bytes) : Type 0 where
  pub bytes : AreBytes m
  pub places : (a : ℕ) → is_some (m a) ≡ true → a < 2 ^ 64

-- how many bytes a width has
abbrev pub bytes_of : Width → ℕ
bytes_of B1 = 1
bytes_of B2 = 2
bytes_of B4 = 4
bytes_of B8 = 8

-- the address after a, modulo 2 ^ 64
abbrev pub after : ℕ → ℕ
after a = (a + 1) % 2 ^ 64

-- the address k after a, modulo 2 ^ 64
abbrev pub away : ℕ → ℕ → ℕ
away a k = (a + k) % 2 ^ 64

-- the number that n bytes from a on make; an absent byte counts as 0
abbrev pub load : ℕ → Bytes → ℕ → ℕ
load zero m a = 0
load (suc n) m a = unwrap_or (m a) 0 + 256 * load n m (after a)

-- all n addresses from a on are present
abbrev pub inside : ℕ → Bytes → ℕ → Bool
inside zero m a = true
inside (suc n) m a = is_some (m a) && inside n m (after a)

-- the word that four bytes from a on make, if they are present
abbrev pub word_at : Bytes → ℕ → Option ℕ
word_at m a = if inside 4 m a then Some (load 4 m a) else None

-- b at a, if a is present
abbrev pub put_byte : Bytes → ℕ → ℕ → Bytes
put_byte m a b q = if q == a then option_map (λ _. b) (m q) else m q

-- the low n bytes of v at those of n addresses from a on that are present
abbrev pub store : ℕ → Bytes → ℕ → ℕ → Bytes
store zero m a v = m
store (suc n) m a v = put_byte (store n m (after a) (v / 256)) a (v % 256)

-- bytes that lie from a on, and no others
abbrev pub bytes_from : ℕ → List ℕ → Bytes
bytes_from a bytes q = if nat_le a q then slice_get bytes (q - a) else None

-- the bytes of x, and where it has none those of m
abbrev pub over : Bytes → Bytes → Bytes
over x m q = option_or (x q) (m q)

-- the bytes from a on are these, whatever lies elsewhere
abbrev pub AreAt : List ℕ → Bytes → ℕ → Type 0
AreAt bytes m a = (k : ℕ) → k < length bytes → m (away a k) ≡ slice_get bytes k

-- two memories are the same at n addresses from a on
abbrev pub AreSame : ℕ → Bytes → Bytes → ℕ → Type 0
AreSame n m w a = (k : ℕ) → k < n → m (away a k) ≡ w (away a k)

-- the number that bytes make, the low one first
abbrev pub number_of : List ℕ → ℕ
number_of [] = 0
number_of (b ∷ bs) = b + 256 * number_of bs
