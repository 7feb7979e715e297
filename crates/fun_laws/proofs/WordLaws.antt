-- What the laws say of values.
use Rattle.std.proofs.Common.{◌≡◌, ℕ, ◌+◌, ◌-◌, ◌/◌, ◌%◌, ◌^◌, ◌<◌, Bool, true, false, not, ℤ, pos, negsuc, refl, ap, ◌∙◌, arith, nat_lt, nat_le}
use Rattle.std.specs.Prelude.{int_lt, int_le}
use Rattle.std.proofs.lemmas.Nat.{and_mask}
use lib.Bits.{and_self, or_self, xor_self, and_zero_r, or_zero_r, xor_zero_r}
use Rattle.rv_words.specs.Operation.{operation_value, extension_value, signed, signed_of, word_of, floor_of, low}
use Rattle.rv_words.specs.declared.operation.Op.TheVariants.{Add, Sub, Sll, Xor, Srl, Sra, Or, And, Mul, Addw}
use Rattle.rv_words.specs.declared.extension.Ext.TheVariants.{Sx4}
use Rattle.rv_words.proofs.WordLemmas.{word_of-signed}

pub add_zero : (a : ℕ) → a < 2 ^ 64 → operation_value Add a 0 ≡ a
add_zero a h = omega arith

pub zero_add : (a : ℕ) → a < 2 ^ 64 → operation_value Add 0 a ≡ a
zero_add a h = omega arith

pub sub_zero : (a : ℕ) → a < 2 ^ 64 → operation_value Sub a 0 ≡ a
sub_zero a h = omega arith

pub or_zero : (a : ℕ) → operation_value Or a 0 ≡ a
or_zero a = or_zero_r a

pub xor_zero : (a : ℕ) → operation_value Xor a 0 ≡ a
xor_zero a = xor_zero_r a

pub or_same : (a : ℕ) → operation_value Or a a ≡ a
or_same a = or_self a

pub mul_one : (a : ℕ) → a < 2 ^ 64 → operation_value Mul a 1 ≡ a
mul_one a h = omega arith

pub and_top : (a : ℕ) → a < 2 ^ 64 → operation_value And a (2 ^ 64 - 1) ≡ a
and_top a h = and_mask a 64 ∙ omega arith

pub and_zero : (a : ℕ) → operation_value And a 0 ≡ 0
and_zero a = and_zero_r a

pub mul_zero : (a : ℕ) → operation_value Mul a 0 ≡ 0
mul_zero a = omega arith

pub xor_same : (a : ℕ) → operation_value Xor a a ≡ 0
xor_same a = xor_self a

pub sub_same : (a : ℕ) → a < 2 ^ 64 → operation_value Sub a a ≡ 0
sub_same a h = omega arith

pub and_same : (a : ℕ) → operation_value And a a ≡ a
and_same a = and_self a

pub add_twice : (a c d : ℕ) → operation_value Add (operation_value Add a c) d ≡ operation_value Add a ((c + d) % 2 ^ 64)
add_twice a c d = omega arith

pub sll_zero : (a : ℕ) → a < 2 ^ 64 → operation_value Sll a 0 ≡ a
sll_zero a h = omega arith

pub srl_zero : (a : ℕ) → operation_value Srl a 0 ≡ a
srl_zero a = omega arith

floor_one : (z : ℤ) → floor_of z 1 ≡ z
floor_one (pos n) = let e : n / 1 ≡ n = omega arith in ap pos e
floor_one (negsuc n) = let e : n / 1 ≡ n = omega arith in ap negsuc e

pub sra_zero : (a : ℕ) → a < 2 ^ 64 → operation_value Sra a 0 ≡ a
sra_zero a h = ap word_of (floor_one (signed a)) ∙ word_of-signed a h

pub addw_zero : (a : ℕ) → operation_value Addw a 0 ≡ extension_value Sx4 a
addw_zero a = let e : (low a + 0) % 2 ^ 32 ≡ a % 2 ^ 32 = omega arith in ap (λ n. word_of (signed_of 32 n)) e

pub add_turned : (a b : ℕ) → operation_value Add a b ≡ operation_value Add b a
add_turned a b = let e : a + b ≡ b + a = omega arith in ap (λ n. n % 2 ^ 64) e

pub not_not : (b : Bool) → not (not b) ≡ b
not_not true = refl
not_not false = refl

pub not_lt : (a b : ℕ) → not (nat_lt a b) ≡ nat_le b a
not_lt a b = grind arith

pub not_le : (a b : ℕ) → not (nat_le b a) ≡ nat_lt a b
not_le a b = grind arith

pub not_int_lt : (a b : ℤ) → not (int_lt a b) ≡ int_le b a
not_int_lt (pos a) (pos b) = not_lt a b
not_int_lt (pos a) (negsuc b) = refl
not_int_lt (negsuc a) (pos b) = refl
not_int_lt (negsuc a) (negsuc b) = not_lt b a

pub not_int_le : (a b : ℤ) → not (int_le b a) ≡ int_lt a b
not_int_le (pos a) (pos b) = not_le a b
not_int_le (pos a) (negsuc b) = refl
not_int_le (negsuc a) (pos b) = refl
not_int_le (negsuc a) (negsuc b) = not_le b a
