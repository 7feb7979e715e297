-- What holds of the operations' values: they are words, and what a mask and a second extension do to a word.
use Rattle.std.proofs.Common.{◌≡◌, ℕ, zero, suc, ◌+◌, ◌-◌, ◌*◌, ◌/◌, ◌%◌, ◌^◌, ◌<◌, ◌≤◌, ◌↔◌, Bool, true, false, nat_lt, ℤ, pos, negsuc, sym, ap, subst, ◌∙◌, arith, bit_and, ⊎_elim}
use Rattle.std.proofs.lemmas.Bool.{lt-ltb, le-ltb, cases_lt, cond-true, cond-false}
use Rattle.std.proofs.lemmas.Nat.{mod-mul-add, pow_pos, pow-add, shr_le, shr_split, and_le_l, or_lt, xor_lt, and_mask, and_block}
use Rattle.std.proofs.lemmas.Int.{ints}
use Rattle.std.proofs.Math.Nat.{add-zero, pow-suc, div-lt_iff_lt-mul, mod-lt, mod-eq_of_lt, pow-le-pow_right}
use Rattle.std.specs.Int.Bits.{and_zero_r}
use Rattle.rv_words.specs.Operation.{signed_of, signed, word_of, flag, low, extended, operation_value, extension_value}
use Rattle.rv_words.specs.declared.operation.Op.{Op}
use Rattle.rv_words.specs.declared.operation.Op.TheVariants.{Add, Sub, Sll, Slt, Sltu, Xor, Srl, Sra, Or, And, Mul, Mulh, Mulhsu, Mulhu, Div, Divu, Rem, Remu, Addw, Subw, Sllw, Srlw, Sraw, Mulw, Divw, Divuw, Remw, Remuw}
use Rattle.rv_words.specs.declared.extension.Ext.{Ext}
use Rattle.rv_words.specs.declared.extension.Ext.TheVariants.{Sx1, Sx2, Sx4}

-- ---- values are words

pub word_of_small : (z : ℤ) → word_of z < 2 ^ 64
word_of_small (pos n) = omega arith
word_of_small (negsuc n) = omega arith

pub extended_small : (k a : ℕ) → extended k a < 2 ^ 64
extended_small k a = word_of_small (signed_of k (a % 2 ^ k))

flag_small : (b : Bool) → flag b < 2 ^ 64
flag_small true = omega arith
flag_small false = omega arith

pub operation_small : (op : Op) (a b : ℕ) → a < 2 ^ 64 → b < 2 ^ 64 → operation_value op a b < 2 ^ 64
operation_small Add a b p q = omega arith
operation_small Sub a b p q = omega arith
operation_small Sll a b p q = mod-lt _ (pow_pos 64)
operation_small Slt a b p q = flag_small _
operation_small Sltu a b p q = flag_small _
operation_small Xor a b p q = xor_lt 64 a b p q
operation_small Srl a b p q = omega (arith, shr_le a (b % 2 ^ 6))
operation_small Sra a b p q = search word_of_small
operation_small Or a b p q = or_lt 64 a b p q
operation_small And a b p q = omega (arith, and_le_l a b)
operation_small Mul a b p q = mod-lt _ (pow_pos 64)
operation_small Mulh a b p q = search word_of_small
operation_small Mulhsu a b p q = search word_of_small
operation_small Mulhu a b p q = search word_of_small
operation_small Div a b p q = search word_of_small
operation_small Divu a b p q = search word_of_small
operation_small Rem a b p q = search word_of_small
operation_small Remu a b p q = search word_of_small
operation_small Addw a b p q = search extended_small
operation_small Subw a b p q = search extended_small
operation_small Sllw a b p q = search extended_small
operation_small Srlw a b p q = search extended_small
operation_small Sraw a b p q = search word_of_small
operation_small Mulw a b p q = search extended_small
operation_small Divw a b p q = search extended_small
operation_small Divuw a b p q = search extended_small
operation_small Remw a b p q = search extended_small
operation_small Remuw a b p q = search extended_small

pub extension_small : (kind : Ext) (a : ℕ) → extension_value kind a < 2 ^ 64
extension_small Sx1 a = extended_small 8 a
extension_small Sx2 a = extended_small 16 a
extension_small Sx4 a = extended_small 32 a

-- ---- masks

-- the low k bits
pub and_low : (a k : ℕ) → operation_value And a (2 ^ k - 1) ≡ a % 2 ^ k
and_low a k = and_mask a k

-- the n bits above the low k, where there are no more
pub and_high : (a k n : ℕ) → a < 2 ^ (n + k) → operation_value And a ((2 ^ n - 1) * 2 ^ k) ≡ a / 2 ^ k * 2 ^ k
and_high a k n h =
    let some = pow_pos k in
    let zero_low : (2 ^ n - 1) * 2 ^ k ≡ (2 ^ n - 1) * 2 ^ k + 0 = omega arith in
    let top : a / 2 ^ k < 2 ^ n = (div-lt_iff_lt-mul some).1 (subst (λ x. a < x) (pow-add 2 n k) h) in
    (λ i. bit_and (sym (shr_split a k) i) (zero_low i))
    ∙ and_block k (a / 2 ^ k) (2 ^ n - 1) (a % 2 ^ k) 0 (mod-lt a some) some
    ∙ (λ i. ((and_mask (a / 2 ^ k) n ∙ mod-eq_of_lt top) i) * 2 ^ k + and_zero_r (a % 2 ^ k) i) ∙ add-zero _

-- bit 0 cleared, as in the target of JALR
pub and_clears : (a : ℕ) → a < 2 ^ 64 → operation_value And a (2 ^ 64 - 2) ≡ a / 2 * 2
and_clears a h = and_high a 1 63 h

-- bit 1
pub and_two : (a : ℕ) → operation_value And a 2 ≡ a / 2 % 2 * 2
and_two a =
    (λ i. bit_and (sym (shr_split a 1) i) (1 * 2 ^ 1 + 0))
    ∙ and_block 1 (a / 2 ^ 1) 1 (a % 2 ^ 1) 0 (mod-lt a (pow_pos 1)) (pow_pos 1)
    ∙ (λ i. and_mask (a / 2 ^ 1) 1 i * 2 ^ 1 + and_zero_r (a % 2 ^ 1) i) ∙ add-zero _

-- with bit 0 cleared a word is a multiple of 4 exactly where its bit 1 is 0
pub target_aligned : (a : ℕ) → a < 2 ^ 64 → (operation_value And a 2 ≡ 0) ↔ (operation_value And a (2 ^ 64 - 2) % 4 ≡ 0)
target_aligned a h =
    let two = and_two a in
    let even = and_clears a h in
    (λ z. omega arith, λ z. omega arith)

-- ---- signs

-- a number of k bits is itself below the highest bit, and lower by 2 ^ k from there on
pub signed_below : (k n : ℕ) → n < 2 ^ (k - 1) → signed_of k n ≡ pos n
signed_below k n h = cond-true (nat_lt n (2 ^ (k - 1))) _ _ (lt-ltb _ _ h)

pub signed_above : (k n : ℕ) → 2 ^ (k - 1) ≤ n → n < 2 ^ k → signed_of k n ≡ negsuc (2 ^ k - suc n)
signed_above k n h l = cond-false (nat_lt n (2 ^ (k - 1))) _ _ (le-ltb _ _ h) ∙ omega (arith, ints)

-- the whole number of a word, as a word
pub word_of-signed : (a : ℕ) → a < 2 ^ 64 → word_of (signed a) ≡ a
word_of-signed a h = ⊎_elim
    (λ l. ap word_of (signed_below 64 a l) ∙ mod-eq_of_lt h)
    (λ l. ap word_of (signed_above 64 a l h) ∙ omega arith)
    (cases_lt a (2 ^ 63))

-- the low j bits of a word that was extended from k bits n, for k up to j, have the whole number of n
low_signed : (j k n : ℕ) → 0 < k → k ≤ j → j ≤ 64 → n < 2 ^ k → signed_of j (word_of (signed_of k n) % 2 ^ j) ≡ signed_of k n
low_signed j k n s h l b =
    let half_k : 2 ^ k ≡ 2 ^ (k - 1) * 2 = pow_half k s in
    let half_j : 2 ^ j ≡ 2 ^ (j - 1) * 2 = pow_half j (omega arith) in
    let order : 2 ^ k ≤ 2 ^ j = pow-le-pow_right {n = 2} (omega arith) h in
    let q = 2 ^ (64 - j) - 1 in
    let some : 0 < 2 ^ (64 - j) = pow_pos (64 - j) in
    let more : 2 ^ (64 - j) ≡ q + 1 = omega arith in
    let sum : 64 ≡ (64 - j) + j = omega arith in
    let all : 2 ^ 64 ≡ (q + 1) * 2 ^ j = ap (λ x. 2 ^ x) sum ∙ pow-add 2 (64 - j) j ∙ ap (λ x. x * 2 ^ j) more in
    ⊎_elim
    (λ lower.
    let e = signed_below k n lower in
    let same : n % 2 ^ 64 % 2 ^ j ≡ n = ap (λ x. x % 2 ^ j) (mod-eq_of_lt (omega arith)) ∙ mod-eq_of_lt (omega arith) in
    ap (λ z. signed_of j (word_of z % 2 ^ j)) e ∙ ap (signed_of j) same ∙ signed_below j n (omega arith) ∙ sym e)
    (λ upper.
    let e = signed_above k n upper b in
    let m = 2 ^ j - 2 ^ k + n in
    let back : (2 ^ k - suc n) % 2 ^ 64 ≡ 2 ^ k - suc n = mod-eq_of_lt (omega arith) in
    let word : word_of (negsuc (2 ^ k - suc n)) ≡ q * 2 ^ j + m = omega arith in
    let same : word_of (negsuc (2 ^ k - suc n)) % 2 ^ j ≡ m = ap (λ x. x % 2 ^ j) word ∙ mod-mul-add q (2 ^ j) m (omega arith) in
    let far : 2 ^ j - suc m ≡ 2 ^ k - suc n = omega arith in
    ap (λ z. signed_of j (word_of z % 2 ^ j)) e ∙ ap (signed_of j) same ∙ signed_above j m (omega arith) (omega arith) ∙ ap negsuc far ∙ sym e)
    (cases_lt n (2 ^ (k - 1)))
  where
    pow_half : (i : ℕ) → 0 < i → 2 ^ i ≡ 2 ^ (i - 1) * 2
    pow_half zero p = absurd (omega arith)
    pow_half (suc i) p = let e : i ≡ suc i - 1 = omega arith in pow-suc 2 i ∙ ap (λ x. 2 ^ x * 2) e

-- ---- extensions

-- an extension from k bits is one from j bits, for k up to j
pub extended_again : (j k a : ℕ) → 0 < k → k ≤ j → j ≤ 64 → extended j (extended k a) ≡ extended k a
extended_again j k a s h l = ap word_of (low_signed j k (a % 2 ^ k) s h l (mod-lt a (pow_pos k)))

pub sx4_again : (a : ℕ) → extension_value Sx4 (extension_value Sx4 a) ≡ extension_value Sx4 a
sx4_again a = extended_again 32 32 a (omega arith) (omega arith) (omega arith)

-- the operations on halves give words that are extended already
pub sx4-addw : (a b : ℕ) → extension_value Sx4 (operation_value Addw a b) ≡ operation_value Addw a b
sx4-addw a b = sx4_again (low a + low b)

pub sx4-subw : (a b : ℕ) → extension_value Sx4 (operation_value Subw a b) ≡ operation_value Subw a b
sx4-subw a b = sx4_again (low a + (2 ^ 32 - low b))
