-- The low bits of results that were computed modulo 2 ^ 128.
use Rattle.std.proofs.Common.{◌≡◌, ℕ, suc, ◌+◌, ◌-◌, ◌*◌, ◌/◌, ◌%◌, ◌^◌, ◌<◌, ◌≤◌, Bool, true, false, cond, refl, sym, ap, subst, ◌∙◌, arith, bit_or, bit_xor, Fits}
use Rattle.std.specs.Prelude.{nat_le, ◌&&◌}
use Rattle.std.specs.Int.{w128}
use Rattle.std.proofs.Math.Nat.{mod-eq_of_lt, div-eq_of_lt, suc-mul, mul_assoc, mul-mod_left, add-mul-mod_self_right, pow-le-pow_right}
use Rattle.std.proofs.Math.Pow.{mod-mod-pow, not_mod}
use Rattle.std.proofs.lemmas.Bool.{leb-true}
use Rattle.std.proofs.lemmas.Nat.{pow_pos, pow-add, or_lt, xor_lt, shl_whole, mul-add-lt}
use Rattle.smt_terms.specs.Operators.{is_width, is_negative, extended_by}

pub both : (a b : Bool) → (a && b) ≡ true → (a ≡ true) × (b ≡ true)
both true b h = (refl, h)
both false b h = absurd (cc)

pub width-most : (w : ℕ) → is_width w ≡ true → w ≤ 128
width-most w h = leb-true w 128 (both (nat_le 1 w) (nat_le w 128) h).1

pub width-least : (w : ℕ) → is_width w ≡ true → 1 ≤ w
width-least w h = leb-true 1 w (both (nat_le 1 w) (nat_le w 128) h).0

-- more bits hold more
pub pow-most : (i j : ℕ) → i ≤ j → 2 ^ i ≤ 2 ^ j
pow-most i j h = pow-le-pow_right (pow_pos 1) h

-- a result modulo 2 ^ 128, of which the low bits are taken
pub low_wrapped : (n w : ℕ) → is_width w ≡ true → n % 2 ^ 128 % 2 ^ w ≡ n % 2 ^ w
low_wrapped n w h =
    let le : w ≤ 128 = width-most w h in
    let e : 128 ≡ 128 - w + w = omega arith in ap (λ (k : ℕ). n % 2 ^ k % 2 ^ w) e ∙ mod-mod-pow n (128 - w) w

-- a number that has so few bits
pub low_small : (n w : ℕ) → n < 2 ^ w → n % 2 ^ w ≡ n
low_small n w h = mod-eq_of_lt h

pub low_or : (a b w v : ℕ) → w ≡ v → a < 2 ^ w → b < 2 ^ v → bit_or a b % 2 ^ w ≡ bit_or a b
low_or a b w v e ha hb = mod-eq_of_lt (or_lt w a b ha (subst (λ (k : ℕ). b < 2 ^ k) (sym e) hb))

pub low_xor : (a b w v : ℕ) → w ≡ v → a < 2 ^ w → b < 2 ^ v → bit_xor a b % 2 ^ w ≡ bit_xor a b
low_xor a b w v e ha hb = mod-eq_of_lt (xor_lt w a b ha (subst (λ (k : ℕ). b < 2 ^ k) (sym e) hb))

pub low_wider : (n w k : ℕ) → n < 2 ^ w → n % 2 ^ (w + k) ≡ n
low_wider n w k h = let le : 2 ^ w ≤ 2 ^ (w + k) = pow-most w (w + k) (omega arith) in let lt : n < 2 ^ (w + k) = omega arith in mod-eq_of_lt lt

pub low_not : (n w : ℕ) → is_width w ≡ true → n < 2 ^ w → (2 ^ 128 - 1 - n) % 2 ^ w ≡ 2 ^ w - 1 - n
low_not n w h lt =
    let le : w ≤ 128 = width-most w h in
    let e : 128 ≡ 128 - w + w = omega arith in ap (λ (k : ℕ). (2 ^ k - 1 - n) % 2 ^ w) e ∙ not_mod (128 - w) w lt

pub low_ones : (w : ℕ) → is_width w ≡ true → (2 ^ 128 - 1) % 2 ^ w ≡ 2 ^ w - 1
low_ones w h = let e : 2 ^ 128 - 1 - 0 ≡ 2 ^ 128 - 1 = refl in let r : 2 ^ w - 1 - 0 ≡ 2 ^ w - 1 = omega arith in ap (λ (n : ℕ). n % 2 ^ w) (sym e) ∙ low_not 0 w h (pow_pos w) ∙ r

-- 2 ^ 128 is a multiple of 2 ^ w, and no less than it
power-split : (w : ℕ) → w ≤ 128 → (j : ℕ) × (2 ^ 128 ≡ j * 2 ^ w + 2 ^ w)
power-split w h =
    let e : 128 ≡ 128 - w + w = omega arith in
    let k = 2 ^ (128 - w) in
    let p : 0 < k = pow_pos (128 - w) in
    let s : k ≡ suc (k - 1) = omega arith in
    (k - 1, ap (λ (n : ℕ). 2 ^ n) e ∙ pow-add 2 (128 - w) w ∙ ap (λ (n : ℕ). n * 2 ^ w) s ∙ suc-mul (k - 1) (2 ^ w))

pub low_difference : (a b w : ℕ) → is_width w ≡ true → b < 2 ^ w → (a + (2 ^ 128 - b)) % 2 ^ 128 % 2 ^ w ≡ (a + (2 ^ w - b)) % 2 ^ w
low_difference a b w h lt =
    let s = power-split w (width-most w h) in
    let j = s.0 in
    let big = 2 ^ 128 in
    let small = 2 ^ w in
    let part = j * small in
    let whole : big ≡ part + small = s.1 in
    let e : a + (big - b) ≡ a + (small - b) + part = omega arith in
    low_wrapped (a + (big - b)) w h ∙ ap (λ (n : ℕ). n % 2 ^ w) e ∙ add-mul-mod_self_right (a + (2 ^ w - b)) j (2 ^ w)

-- ---- shifts that leave no bit

pub shift_out_left : (a b : ℕ) → 128 ≤ b → 0 ≡ a * 2 ^ b % 2 ^ 128
shift_out_left a b h =
    let e : b ≡ b - 128 + 128 = omega arith in
    sym (ap (λ (k : ℕ). a * 2 ^ k % 2 ^ 128) e ∙ ap (λ (n : ℕ). a * n % 2 ^ 128) (pow-add 2 (b - 128) 128) ∙ ap (λ (n : ℕ). n % 2 ^ 128) (sym (mul_assoc a (2 ^ (b - 128)) (2 ^ 128))) ∙ mul-mod_left (a * 2 ^ (b - 128)) (2 ^ 128))

pub shift_out_right : (a b : ℕ) → a < 2 ^ 128 → 128 ≤ b → 0 ≡ a / 2 ^ b
shift_out_right a b lt h = let le : 2 ^ 128 ≤ 2 ^ b = pow-most 128 b h in let m : a < 2 ^ b = omega arith in sym (div-eq_of_lt m)

-- ---- concatenation

pub concat-below : (a b w v : ℕ) → a < 2 ^ w → b < 2 ^ v → a * 2 ^ v + b < 2 ^ (w + v)
concat-below a b w v ha hb =
    let e : 2 ^ v * 2 ^ w ≡ 2 ^ (w + v) = sym (pow-add 2 v w) ∙ ap (λ (k : ℕ). 2 ^ k) (omega arith) in
    subst (λ (n : ℕ). a * 2 ^ v + b < n) e (mul-add-lt a (2 ^ v) b (2 ^ w) ha hb)

pub concat_shifted : (a w v : ℕ) → is_width (w + v) ≡ true → a < 2 ^ w → a * 2 ^ v % 2 ^ 128 ≡ a * 2 ^ v
concat_shifted a w v h ha = shl_whole a w v 128 ha (width-most (w + v) h)

pub concat_fits : (a b w v : ℕ) → is_width (w + v) ≡ true → a < 2 ^ w → b < 2 ^ v → Fits w128 (a * 2 ^ v % 2 ^ 128 + b)
concat_fits a b w v h ha hb =
    let e : a * 2 ^ v % 2 ^ 128 ≡ a * 2 ^ v = concat_shifted a w v h ha in
    let lt : a * 2 ^ v + b < 2 ^ (w + v) = concat-below a b w v ha hb in
    let le : 2 ^ (w + v) ≤ 2 ^ 128 = pow-most (w + v) 128 (width-most (w + v) h) in
    record { fits = omega arith }

pub concat_low : (a b w v : ℕ) → is_width (w + v) ≡ true → a < 2 ^ w → b < 2 ^ v → (a * 2 ^ v % 2 ^ 128 + b) % 2 ^ (w + v) ≡ a * 2 ^ v + b
concat_low a b w v h ha hb = ap (λ (n : ℕ). (n + b) % 2 ^ (w + v)) (concat_shifted a w v h ha) ∙ mod-eq_of_lt (concat-below a b w v ha hb)

-- ---- extension

pub extended_high : (k w a : ℕ) → a < 2 ^ w → is_negative w a ≡ true → 2 ^ (w + k) - 1 - (2 ^ w - 1 - a) ≡ extended_by k w a
extended_high k w a lt h =
    let le : 2 ^ w ≤ 2 ^ (w + k) = pow-most w (w + k) (omega arith) in
    let e : 2 ^ (w + k) - 1 - (2 ^ w - 1 - a) ≡ a + (2 ^ (w + k) - 2 ^ w) = omega arith in
    e ∙ sym (λ j. cond (h j) (a + (2 ^ (w + k) - 2 ^ w)) a)
