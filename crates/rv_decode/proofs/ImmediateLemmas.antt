-- Immediates: bits in two's complement and back.
use Rattle.std.proofs.Common.{◌≡◌, ℕ, suc, ◌-◌, ◌*◌, ◌%◌, ◌^◌, ◌<◌, ◌≤◌, eqb, ltb, Bool, true, false, ◌&&◌, refl, subst, arith, eq-eqb}
use Rattle.std.specs.Prelude.{ℤ, pos, negsuc, ◌-ℤ◌, nat_lt, nat_abs, int_le, int_lt, if◌then◌else◌}
use Rattle.std.proofs.lemmas.Int.{ints}
use Rattle.std.proofs.lemmas.Bool.Decides.{nat_tests}
use Rattle.rv_words.specs.Operation.{signed_of}
use Rattle.rv_decode.specs.Ranges.{has_bits, is_offset, is_amount}
use Rattle.rv_decode.specs.Encodes.{unsigned_of}

-- a number of bits, h of whose values are below the sign
abbrev signed_by : ℕ → ℕ → ℤ
signed_by h m = if nat_lt m h then pos m else pos m -ℤ pos (2 * h)

signed_cases : (P : ℤ → Type 0) (h m : ℕ) → m < 2 * h → (m < h → P (pos m)) → (h ≤ m → P (negsuc (2 * h - 1 - m))) → P (signed_by h m)
signed_cases P h m l here there = by_test (nat_lt m h) refl
  where
    minus : (m n : ℕ) → m < n → negsuc (n - 1 - m) ≡ pos m -ℤ pos n
    minus m n l = omega (arith, ints)

    by_test : (t : Bool) → nat_lt m h ≡ t → P (if t then pos m else pos m -ℤ pos (2 * h))
    by_test true e = here (grind (arith, nat_tests))
    by_test false e = subst P (minus m (2 * h) l) (there (grind (arith, nat_tests)))

-- ---- from bits to a whole number and back

pub low_12 : (m : ℕ) → m < 2 ^ 12 → unsigned_of (signed_of 12 m) % 2 ^ 12 ≡ m
low_12 m l = signed_cases (λ z. unsigned_of z % 4096 ≡ m) 2048 m l (λ h. omega arith) (λ h. omega arith)

pub low_13 : (m : ℕ) → m < 2 ^ 13 → unsigned_of (signed_of 13 m) % 2 ^ 13 ≡ m
low_13 m l = signed_cases (λ z. unsigned_of z % 8192 ≡ m) 4096 m l (λ h. omega arith) (λ h. omega arith)

pub low_21 : (m : ℕ) → m < 2 ^ 21 → unsigned_of (signed_of 21 m) % 2 ^ 21 ≡ m
low_21 m l = signed_cases (λ z. unsigned_of z % 2097152 ≡ m) 1048576 m l (λ h. omega arith) (λ h. omega arith)

pub below_true : (a b : ℕ) → a < b → ltb a b ≡ true
below_true a b h = grind (arith, nat_tests)

pub and_both : (a b : Bool) → a ≡ true → b ≡ true → (a && b) ≡ true
and_both a b p q = λ i. p i && q i

has_by : (h m : ℕ) → m < 2 * suc h → (int_le (negsuc h) (signed_by (suc h) m) && int_lt (signed_by (suc h) m) (pos (suc h))) ≡ true
has_by h m l =
    signed_cases (λ z. (int_le (negsuc h) z && int_lt z (pos (suc h))) ≡ true) (suc h) m l
    (λ small. grind (arith, nat_tests))
    (λ large. grind (arith, nat_tests))

pub has_12 : (m : ℕ) → m < 2 ^ 12 → has_bits 12 (signed_of 12 m) ≡ true
has_12 m l = has_by 2047 m l

pub offset_13 : (m : ℕ) → m < 2 ^ 13 → m % 2 ≡ 0 → is_offset 13 (signed_of 13 m) ≡ true
offset_13 m l even = and_both (has_bits 13 (signed_of 13 m)) (eqb (nat_abs (signed_of 13 m) % 2) 0) (has_by 4095 m l) (eq-eqb (nat_abs (signed_of 13 m) % 2) 0 (signed_cases (λ z. nat_abs z % 2 ≡ 0) 4096 m l (λ h. even) (λ h. omega arith)))

pub offset_21 : (m : ℕ) → m < 2 ^ 21 → m % 2 ≡ 0 → is_offset 21 (signed_of 21 m) ≡ true
offset_21 m l even = and_both (has_bits 21 (signed_of 21 m)) (eqb (nat_abs (signed_of 21 m) % 2) 0) (has_by 1048575 m l) (eq-eqb (nat_abs (signed_of 21 m) % 2) 0 (signed_cases (λ z. nat_abs z % 2 ≡ 0) 1048576 m l (λ h. even) (λ h. omega arith)))

pub amount_true : (n m : ℕ) → m < n → is_amount n (pos m) ≡ true
amount_true n m h = grind (arith, nat_tests)

-- ---- from a whole number to bits and back

pub signed_12 : (z : ℤ) → has_bits 12 z ≡ true → signed_of 12 (unsigned_of z % 2 ^ 12) ≡ z
signed_12 (pos n) h = grind (arith, ints, nat_tests)
signed_12 (negsuc n) h = grind (arith, ints, nat_tests)

pub signed_13 : (z : ℤ) → has_bits 13 z ≡ true → signed_of 13 (unsigned_of z % 2 ^ 13) ≡ z
signed_13 (pos n) h = grind (arith, ints, nat_tests)
signed_13 (negsuc n) h = grind (arith, ints, nat_tests)

pub signed_21 : (z : ℤ) → has_bits 21 z ≡ true → signed_of 21 (unsigned_of z % 2 ^ 21) ≡ z
signed_21 (pos n) h = grind (arith, ints, nat_tests)
signed_21 (negsuc n) h = grind (arith, ints, nat_tests)

-- an offset's bit 0 is clear
pub offset_even : (z : ℤ) → (nat_abs z % 2) ≡ 0 → unsigned_of z % 2 ≡ 0
offset_even (pos n) h = h
offset_even (negsuc n) h = omega arith
