-- The operations' expressions have the operations' values.
use Rattle.std.proofs.Common.{◌≡◌, ℕ, zero, suc, ◌+◌, ◌-◌, ◌*◌, ◌/◌, ◌%◌, ◌^◌, ◌<◌, ◌≤◌, Bool, true, false, cond, eqb, pos, negsuc, [], ◌∷◌, codes, refl, ap, ◌∙◌, arith, nat_lt, bit_and}
use Rattle.std.specs.Prelude.{◌*ℤ◌}
use lib.IntN.{neg_ℤ}
use Rattle.std.proofs.lemmas.Nat.{and_mask, shr_le, mul-lt, mul-le}
use Rattle.std.proofs.Math.Nat.{mul-sub, mul_comm, div-le_self, mod-le}
use Rattle.rv_words.specs.Operation.{operation_value, signed_of, signed, signed_low, word_of, floor_of, low, extended, amount, half_amount, quotient, remainder, flag}
use Rattle.rv_words.specs.declared.operation.Op.{Op}
use Rattle.rv_words.specs.declared.operation.Op.TheVariants.{Add, Sub, Sll, Slt, Sltu, Xor, Srl, Sra, Or, And, Mul, Mulh, Mulhsu, Mulhu, Div, Divu, Rem, Remu, Addw, Subw, Sllw, Srlw, Sraw, Mulw, Divw, Divuw, Remw, Remuw}
use Rattle.rv_words.proofs.WordLemmas.{signed_below, signed_above}
use Rattle.smt_terms.specs.Operators.{Value, Bits, is_negative, shifted_right, less_signed, extended_by, of_bits}
use Rattle.smt_terms.specs.Meaning.{Variables, bind, Functions, value, no_names}
use Rattle.smt_terms.specs.Helpers.{operation_expr}
use Rattle.smt_terms.proofs.Signs.{by_sign, less}

abbrev ab : ℕ → ℕ → Variables
ab x y = bind (bind no_names (codes "a") (Bits 64 x)) (codes "b") (Bits 64 y)

module _ (fs : Functions) where
  abbrev at : Op → ℕ → ℕ → Value
  at op x y = value fs (ab x y) (operation_expr op)

  -- ---- shifts

  sll : (x y : ℕ) → at Sll x y ≡ Bits 64 (operation_value Sll x y)
  sll x y = ap (λ k. Bits 64 (x * 2 ^ k % 2 ^ 64)) (and_mask y 6)

  srl : (x y : ℕ) → at Srl x y ≡ Bits 64 (operation_value Srl x y)
  srl x y = ap (λ k. Bits 64 (x / 2 ^ k)) (and_mask y 6)

  -- the shift by the signs
  right_by : ℕ → Bool → ℕ → ℕ → ℕ
  right_by m n x d = cond n (m - 1 - (m - 1 - x) / d) (x / d)

  sra_low : (x k : ℕ) → x < 2 ^ 64 → x / 2 ^ k ≡ word_of (floor_of (pos x) (2 ^ k))
  sra_low x k h = omega (arith, shr_le x k)

  sra_high : (x k : ℕ) → x < 2 ^ 64 → 2 ^ 64 - 1 - (2 ^ 64 - 1 - x) / 2 ^ k ≡ word_of (floor_of (negsuc (2 ^ 64 - suc x)) (2 ^ k))
  sra_high x k h = let e : 2 ^ 64 - 1 - x ≡ 2 ^ 64 - suc x = omega arith in omega (arith, shr_le (2 ^ 64 - suc x) k, ap (λ n. n / 2 ^ k) e)

  sra_at : (x k : ℕ) → x < 2 ^ 64 → shifted_right 64 x k ≡ word_of (floor_of (signed x) (2 ^ k))
  sra_at x k h =
      by_sign 64 x (λ z n. cond n (2 ^ 64 - 1 - (2 ^ 64 - 1 - x) / 2 ^ k) (x / 2 ^ k) ≡ word_of (floor_of z (2 ^ k))) h (λ l. sra_low x k h) (λ l. sra_high x k h)

  sra : (x y : ℕ) → x < 2 ^ 64 → at Sra x y ≡ Bits 64 (operation_value Sra x y)
  sra x y h = ap (λ k. Bits 64 (shifted_right 64 x k)) (and_mask y 6) ∙ ap (Bits 64) (sra_at x (amount y) h)

  -- ---- comparisons

  flag_of : (t u : Bool) → t ≡ u → cond t (Bits 64 1) (Bits 64 0) ≡ Bits 64 (flag u)
  flag_of true u e = ap (λ v. Bits 64 (flag v)) e
  flag_of false u e = ap (λ v. Bits 64 (flag v)) e

  slt : (x y : ℕ) → x < 2 ^ 64 → y < 2 ^ 64 → at Slt x y ≡ Bits 64 (operation_value Slt x y)
  slt x y h l = flag_of (less_signed 64 x y) _ (less 64 x y h l)

  sltu : (x y : ℕ) → at Sltu x y ≡ Bits 64 (operation_value Sltu x y)
  sltu x y = flag_of (nat_lt x y) _ refl

  -- ---- halves

  half : (x : ℕ) → x / 1 % 2 ^ 32 ≡ low x
  half x = omega arith

  ext_low : (n : ℕ) → n < 2 ^ 32 → extended_by 32 32 n ≡ word_of (signed_of 32 n)
  ext_low n h = by_sign 32 n (λ z t. cond t (n + (2 ^ 64 - 2 ^ 32)) n ≡ word_of z) h (λ l. omega arith) (λ l. omega arith)

  -- a result of 32 bits with its sign extended
  from_low : (n m : ℕ) → n < 2 ^ 32 → n ≡ m % 2 ^ 32 → Bits 64 (extended_by 32 32 n) ≡ Bits 64 (extended 32 m)
  from_low n m h e = ap (Bits 64) (ext_low n h ∙ ap (λ k. word_of (signed_of 32 k)) e)

  addw : (x y : ℕ) → at Addw x y ≡ Bits 64 (operation_value Addw x y)
  addw x y = from_low ((x / 1 % 2 ^ 32 + y / 1 % 2 ^ 32) % 2 ^ 32) (low x + low y) (omega arith) (omega arith)

  subw : (x y : ℕ) → at Subw x y ≡ Bits 64 (operation_value Subw x y)
  subw x y = from_low ((x / 1 % 2 ^ 32 + (2 ^ 32 - y / 1 % 2 ^ 32)) % 2 ^ 32) (low x + (2 ^ 32 - low y)) (omega arith) (omega arith)

  mulw : (x y : ℕ) → at Mulw x y ≡ Bits 64 (operation_value Mulw x y)
  mulw x y = from_low ((x / 1 % 2 ^ 32) * (y / 1 % 2 ^ 32) % 2 ^ 32) (low x * low y) (omega arith) (λ j. half x j * half y j % 2 ^ 32)

  half_shift : (y : ℕ) → bit_and (y / 1 % 2 ^ 32) 31 ≡ half_amount y
  half_shift y = and_mask (y / 1 % 2 ^ 32) 5 ∙ omega arith

  sllw : (x y : ℕ) → at Sllw x y ≡ Bits 64 (operation_value Sllw x y)
  sllw x y =
      from_low ((x / 1 % 2 ^ 32) * 2 ^ bit_and (y / 1 % 2 ^ 32) 31 % 2 ^ 32) (low x * 2 ^ half_amount y) (omega arith)
      (λ j. half x j * 2 ^ half_shift y j % 2 ^ 32)

  srlw : (x y : ℕ) → at Srlw x y ≡ Bits 64 (operation_value Srlw x y)
  srlw x y =
      let small : (x / 1 % 2 ^ 32) / 2 ^ bit_and (y / 1 % 2 ^ 32) 31 < 2 ^ 32 = omega (arith, shr_le (x / 1 % 2 ^ 32) (bit_and (y / 1 % 2 ^ 32) 31)) in
      let same : (x / 1 % 2 ^ 32) / 2 ^ bit_and (y / 1 % 2 ^ 32) 31 ≡ low x / 2 ^ half_amount y = λ j. half x j / 2 ^ half_shift y j in
      from_low ((x / 1 % 2 ^ 32) / 2 ^ bit_and (y / 1 % 2 ^ 32) 31) (low x / 2 ^ half_amount y) small (omega arith)

  -- ---- without signs

  -- a number from 1 on isn't 0
  udiv_suc : (a n o : ℕ) → cond (eqb (suc n) 0) o (a / suc n) ≡ a / suc n
  udiv_suc a n o = grind arith

  urem_suc : (a n : ℕ) → cond (eqb (suc n) 0) a (a % suc n) ≡ a % suc n
  urem_suc a n = grind arith

  div_small : (a n : ℕ) → a / suc n ≤ a
  div_small a n = div-le_self a (suc n)

  mod_small : (a n : ℕ) → a % suc n ≤ a
  mod_small a n = mod-le a (suc n)

  divu_by : (x y : ℕ) → x < 2 ^ 64 → cond (eqb y 0) (2 ^ 64 - 1) (x / y) ≡ word_of (quotient (pos x) (pos y))
  divu_by x zero h = refl
  divu_by x (suc n) h = udiv_suc x n (2 ^ 64 - 1) ∙ omega (arith, div_small x n)

  divu : (x y : ℕ) → x < 2 ^ 64 → at Divu x y ≡ Bits 64 (operation_value Divu x y)
  divu x y h = ap (Bits 64) (divu_by x y h)

  remu_by : (x y : ℕ) → x < 2 ^ 64 → cond (eqb y 0) x (x % y) ≡ word_of (remainder (pos x) (pos y))
  remu_by x zero h = omega arith
  remu_by x (suc n) h = urem_suc x n ∙ omega (arith, mod_small x n)

  remu : (x y : ℕ) → x < 2 ^ 64 → at Remu x y ≡ Bits 64 (operation_value Remu x y)
  remu x y h = ap (Bits 64) (remu_by x y h)

  -- ---- products of 128 bits

  high_of : (p : ℕ) → p < 2 ^ 128 → p % 2 ^ 128 / 2 ^ 64 % 2 ^ 64 ≡ word_of (floor_of (pos p) (2 ^ 64))
  high_of p h = omega arith

  high_below : (p : ℕ) → p ≤ 2 ^ 128 → (2 ^ 128 - p) % 2 ^ 128 / 2 ^ 64 % 2 ^ 64 ≡ word_of (floor_of (neg_ℤ (pos p)) (2 ^ 64))
  high_below zero h = refl
  high_below (suc q) h = omega arith

  product : (x y : ℕ) → x < 2 ^ 64 → y < 2 ^ 64 → x * y < 2 ^ 128
  product x y h l = mul-lt x y (2 ^ 64) (2 ^ 64) h l

  -- a factor below 0, as a number of 128 bits
  turn_one : (u y : ℕ) → u ≤ 2 ^ 64 → y < 2 ^ 64 → (2 ^ 128 - u) * y % 2 ^ 128 ≡ (2 ^ 128 - u * y) % 2 ^ 128
  turn_one u zero h l = omega arith
  turn_one u (suc n) h l =
      let small : u * suc n ≤ 2 ^ 64 * 2 ^ 64 = mul-le u (suc n) (2 ^ 64) (2 ^ 64) h (omega arith) in
      omega (arith, mul_comm (2 ^ 128 - u) (suc n), mul-sub (suc n) (2 ^ 128) u, mul_comm u (suc n))

  turn_both : (u v : ℕ) → u ≤ 2 ^ 64 → v ≤ 2 ^ 64 → (2 ^ 128 - u) * (2 ^ 128 - v) % 2 ^ 128 ≡ u * v % 2 ^ 128
  turn_both u v h l =
      let small : u * v ≤ 2 ^ 64 * 2 ^ 64 = mul-le u v (2 ^ 64) (2 ^ 64) h l in
      let less : u * v ≤ u * 2 ^ 64 = mul-le u v u (2 ^ 64) (omega arith) l in
      omega (arith, mul_comm (2 ^ 128 - u) (2 ^ 128 - v), mul-sub (2 ^ 128 - v) (2 ^ 128) u, mul_comm (2 ^ 128 - v) u, mul-sub u (2 ^ 128) v)

  -- the high half of a product in which the second factor has no sign
  high_first : (x y : ℕ) → x < 2 ^ 64 → y < 2 ^ 64 → (extended_by 64 64 x * y) % 2 ^ 128 / 2 ^ 64 % 2 ^ 64 ≡ word_of (floor_of (signed x *ℤ pos y) (2 ^ 64))
  high_first x y h l =
      by_sign 64 x (λ z n. (cond n (x + (2 ^ 128 - 2 ^ 64)) x * y) % 2 ^ 128 / 2 ^ 64 % 2 ^ 64 ≡ word_of (floor_of (z *ℤ pos y) (2 ^ 64))) h
      (λ low. high_of (x * y) (product x y h l))
      (λ top. let u = suc (2 ^ 64 - suc x) in
      let same : x + (2 ^ 128 - 2 ^ 64) ≡ 2 ^ 128 - u = omega arith in
      let few : u * y ≤ 2 ^ 64 * 2 ^ 64 = mul-le u y (2 ^ 64) (2 ^ 64) (omega arith) (omega arith) in
      (λ j. (same j * y) % 2 ^ 128 / 2 ^ 64 % 2 ^ 64) ∙ (λ j. turn_one u y (omega arith) l j / 2 ^ 64 % 2 ^ 64) ∙ high_below (u * y) few)

  high_both : (x y : ℕ) → x < 2 ^ 64 → y < 2 ^ 64
      → (extended_by 64 64 x * extended_by 64 64 y) % 2 ^ 128 / 2 ^ 64 % 2 ^ 64 ≡ word_of (floor_of (signed x *ℤ signed y) (2 ^ 64))
  high_both x y h l =
      by_sign 64 x (λ z n. (cond n (x + (2 ^ 128 - 2 ^ 64)) x * extended_by 64 64 y) % 2 ^ 128 / 2 ^ 64 % 2 ^ 64 ≡ word_of (floor_of (z *ℤ signed y) (2 ^ 64))) h
      (λ low. by_sign 64 y (λ z n. (x * cond n (y + (2 ^ 128 - 2 ^ 64)) y) % 2 ^ 128 / 2 ^ 64 % 2 ^ 64 ≡ word_of (floor_of (pos x *ℤ z) (2 ^ 64))) l
      (λ _. high_of (x * y) (product x y h l))
      (λ top. let v = suc (2 ^ 64 - suc y) in
      let same : y + (2 ^ 128 - 2 ^ 64) ≡ 2 ^ 128 - v = omega arith in
      let few : x * v ≤ 2 ^ 64 * 2 ^ 64 = mul-le x v (2 ^ 64) (2 ^ 64) (omega arith) (omega arith) in
      (λ j. mul_comm x (same j) j % 2 ^ 128 / 2 ^ 64 % 2 ^ 64) ∙ (λ j. turn_one v x (omega arith) h j / 2 ^ 64 % 2 ^ 64)
      ∙ (λ j. (2 ^ 128 - mul_comm v x j) % 2 ^ 128 / 2 ^ 64 % 2 ^ 64) ∙ high_below (x * v) few))
      (λ top. let u = suc (2 ^ 64 - suc x) in
      let same_x : x + (2 ^ 128 - 2 ^ 64) ≡ 2 ^ 128 - u = omega arith in
      by_sign 64 y (λ z n. ((x + (2 ^ 128 - 2 ^ 64)) * cond n (y + (2 ^ 128 - 2 ^ 64)) y) % 2 ^ 128 / 2 ^ 64 % 2 ^ 64 ≡ word_of (floor_of (negsuc (2 ^ 64 - suc x) *ℤ z) (2 ^ 64))) l
      (λ _. let few : u * y ≤ 2 ^ 64 * 2 ^ 64 = mul-le u y (2 ^ 64) (2 ^ 64) (omega arith) (omega arith) in
      (λ j. (same_x j * y) % 2 ^ 128 / 2 ^ 64 % 2 ^ 64) ∙ (λ j. turn_one u y (omega arith) l j / 2 ^ 64 % 2 ^ 64) ∙ high_below (u * y) few)
      (λ high. let v = suc (2 ^ 64 - suc y) in
      let same_y : y + (2 ^ 128 - 2 ^ 64) ≡ 2 ^ 128 - v = omega arith in
      let few : u * v ≤ 2 ^ 63 * 2 ^ 63 = mul-le u v (2 ^ 63) (2 ^ 63) (omega arith) (omega arith) in
      (λ j. (same_x j * same_y j) % 2 ^ 128 / 2 ^ 64 % 2 ^ 64) ∙ (λ j. turn_both u v (omega arith) (omega arith) j / 2 ^ 64 % 2 ^ 64) ∙ high_of (u * v) (omega arith)))

  mulhu : (x y : ℕ) → x < 2 ^ 64 → y < 2 ^ 64 → at Mulhu x y ≡ Bits 64 (operation_value Mulhu x y)
  mulhu x y h l = ap (Bits 64) (high_of (x * y) (product x y h l))

  mulhsu : (x y : ℕ) → x < 2 ^ 64 → y < 2 ^ 64 → at Mulhsu x y ≡ Bits 64 (operation_value Mulhsu x y)
  mulhsu x y h l = ap (Bits 64) (high_first x y h l)

  mulh : (x y : ℕ) → x < 2 ^ 64 → y < 2 ^ 64 → at Mulh x y ≡ Bits 64 (operation_value Mulh x y)
  mulh x y h l = ap (Bits 64) (high_both x y h l)

  -- ---- division of 64 bits

  below_zero64 : (x : ℕ) → less_signed 64 x 0 ≡ is_negative 64 x
  below_zero64 x = go (is_negative 64 x)
    where
      go : (n : Bool) → cond n true (nat_lt x 0) ≡ n
      go true = refl
      go false = grind arith

  neg64 : ℕ → ℕ
  neg64 x = (2 ^ 64 - x) % 2 ^ 64

  quot64 : Bool → Bool → ℕ → ℕ → Value
  quot64 n m x y =
      cond (eqb y 0) (Bits 64 (2 ^ 64 - 1))
      (cond n
      (cond m (Bits 64 (cond (eqb ((2 ^ 64 - y) % 2 ^ 64) 0) (2 ^ 64 - 1) ((2 ^ 64 - x) % 2 ^ 64 / ((2 ^ 64 - y) % 2 ^ 64)))) (Bits 64 ((2 ^ 64 - cond (eqb y 0) (2 ^ 64 - 1) ((2 ^ 64 - x) % 2 ^ 64 / y)) % 2 ^ 64)))
      (cond m (Bits 64 ((2 ^ 64 - cond (eqb ((2 ^ 64 - y) % 2 ^ 64) 0) (2 ^ 64 - 1) (x / ((2 ^ 64 - y) % 2 ^ 64))) % 2 ^ 64)) (Bits 64 (cond (eqb y 0) (2 ^ 64 - 1) (x / y)))))

  abbrev rest64 : Bool → Bool → ℕ → ℕ → Value
  rest64 n m x y =
      cond n
      (cond m (Bits 64 ((2 ^ 64 - cond (eqb ((2 ^ 64 - y) % 2 ^ 64) 0) ((2 ^ 64 - x) % 2 ^ 64) ((2 ^ 64 - x) % 2 ^ 64 % ((2 ^ 64 - y) % 2 ^ 64))) % 2 ^ 64)) (Bits 64 ((2 ^ 64 - cond (eqb y 0) ((2 ^ 64 - x) % 2 ^ 64) ((2 ^ 64 - x) % 2 ^ 64 % y)) % 2 ^ 64)))
      (cond m (Bits 64 (cond (eqb ((2 ^ 64 - y) % 2 ^ 64) 0) x (x % ((2 ^ 64 - y) % 2 ^ 64)))) (Bits 64 (cond (eqb y 0) x (x % y))))

  nonzero64 : (n : ℕ) (A : Value) (B : Value) → cond (eqb (suc n) 0) A B ≡ B
  nonzero64 n A B = let e : eqb (suc n) 0 ≡ false = grind arith in ap (λ t. cond t A B) e

  some64 : (y : ℕ) (A : Value) (B : Value) → 0 < y → cond (eqb y 0) A B ≡ B
  some64 zero A B h = absurd (omega arith)
  some64 (suc n) A B h = nonzero64 n A B

  turned64 : (q : ℕ) → q ≤ 2 ^ 64 → (2 ^ 64 - q) % 2 ^ 64 ≡ word_of (neg_ℤ (pos q))
  turned64 zero h = refl
  turned64 (suc k) h = omega arith

  flip64 : (x : ℕ) → 2 ^ 63 ≤ x → x < 2 ^ 64 → (2 ^ 64 - x) % 2 ^ 64 ≡ suc (2 ^ 64 - suc x)
  flip64 x h l = omega arith

  quot_by64 : (x y : ℕ) → x < 2 ^ 64 → y < 2 ^ 64 → quot64 (is_negative 64 x) (is_negative 64 y) x y ≡ Bits 64 (word_of (quotient (signed_of 64 x) (signed_of 64 y)))
  unfolding quot64
  quot_by64 x y h l =
      by_sign 64 x (λ z n. quot64 n (is_negative 64 y) x y ≡ Bits 64 (word_of (quotient z (signed_of 64 y)))) h
      (λ low. by_sign 64 y (λ z m. quot64 false m x y ≡ Bits 64 (word_of (quotient (pos x) z))) l (λ _. pp y) (λ top. pn (omega (arith, top)) top))
      (λ hx. by_sign 64 y (λ z m. quot64 true m x y ≡ Bits 64 (word_of (quotient (negsuc (2 ^ 64 - suc x)) z))) l (λ _. np y hx) (λ top. nn (omega (arith, top)) hx top))
    where
      pp : (y : ℕ) → quot64 false false x y ≡ Bits 64 (word_of (quotient (pos x) (pos y)))
      pp zero = refl
      pp (suc n) = nonzero64 n _ _ ∙ ap (Bits 64) (udiv_suc x n (2 ^ 64 - 1) ∙ omega (arith, div_small x n))

      pn : 0 < y → 2 ^ 63 ≤ y → quot64 false true x y ≡ Bits 64 (word_of (quotient (pos x) (negsuc (2 ^ 64 - suc y))))
      pn p top =
          some64 y _ _ p ∙ (λ j. Bits 64 ((2 ^ 64 - cond (eqb (flip64 y top l j) 0) (2 ^ 64 - 1) (x / flip64 y top l j)) % 2 ^ 64))
          ∙ (λ j. Bits 64 ((2 ^ 64 - udiv_suc x (2 ^ 64 - suc y) (2 ^ 64 - 1) j) % 2 ^ 64)) ∙ ap (Bits 64) (turned64 (x / suc (2 ^ 64 - suc y)) (omega (arith, div_small x (2 ^ 64 - suc y))))

      np : (y : ℕ) → 2 ^ 63 ≤ x → quot64 true false x y ≡ Bits 64 (word_of (quotient (negsuc (2 ^ 64 - suc x)) (pos y)))
      np zero hx = refl
      np (suc n) hx =
          nonzero64 n _ _ ∙ (λ j. Bits 64 ((2 ^ 64 - cond (eqb (suc n) 0) (2 ^ 64 - 1) (flip64 x hx h j / suc n)) % 2 ^ 64))
          ∙ (λ j. Bits 64 ((2 ^ 64 - udiv_suc (suc (2 ^ 64 - suc x)) n (2 ^ 64 - 1) j) % 2 ^ 64)) ∙ ap (Bits 64) (turned64 (suc (2 ^ 64 - suc x) / suc n) (omega (arith, div_small (suc (2 ^ 64 - suc x)) n)))

      nn : 0 < y → 2 ^ 63 ≤ x → 2 ^ 63 ≤ y → quot64 true true x y ≡ Bits 64 (word_of (quotient (negsuc (2 ^ 64 - suc x)) (negsuc (2 ^ 64 - suc y))))
      nn p hx top =
          some64 y _ _ p ∙ (λ j. Bits 64 (cond (eqb (flip64 y top l j) 0) (2 ^ 64 - 1) (flip64 x hx h j / flip64 y top l j)))
          ∙ ap (Bits 64) (udiv_suc (suc (2 ^ 64 - suc x)) (2 ^ 64 - suc y) (2 ^ 64 - 1) ∙ omega (arith, div_small (suc (2 ^ 64 - suc x)) (2 ^ 64 - suc y)))

  rest_by64 : (x y : ℕ) → x < 2 ^ 64 → y < 2 ^ 64 → rest64 (is_negative 64 x) (is_negative 64 y) x y ≡ Bits 64 (word_of (remainder (signed_of 64 x) (signed_of 64 y)))
  rest_by64 x y h l =
      by_sign 64 x (λ z n. rest64 n (is_negative 64 y) x y ≡ Bits 64 (word_of (remainder z (signed_of 64 y)))) h
      (λ low. by_sign 64 y (λ z m. rest64 false m x y ≡ Bits 64 (word_of (remainder (pos x) z))) l (λ _. pp y) (λ top. pn top))
      (λ hx. by_sign 64 y (λ z m. rest64 true m x y ≡ Bits 64 (word_of (remainder (negsuc (2 ^ 64 - suc x)) z))) l (λ _. np y hx) (λ top. nn hx top))
    where
      pp : (y : ℕ) → rest64 false false x y ≡ Bits 64 (word_of (remainder (pos x) (pos y)))
      pp zero = ap (Bits 64) (omega arith)
      pp (suc n) = ap (Bits 64) (urem_suc x n ∙ omega (arith, mod_small x n))

      pn : 2 ^ 63 ≤ y → rest64 false true x y ≡ Bits 64 (word_of (remainder (pos x) (negsuc (2 ^ 64 - suc y))))
      pn top =
          (λ j. Bits 64 (cond (eqb (flip64 y top l j) 0) x (x % flip64 y top l j)))
          ∙ ap (Bits 64) (urem_suc x (2 ^ 64 - suc y) ∙ omega (arith, mod_small x (2 ^ 64 - suc y)))

      np : (y : ℕ) → 2 ^ 63 ≤ x → rest64 true false x y ≡ Bits 64 (word_of (remainder (negsuc (2 ^ 64 - suc x)) (pos y)))
      np zero hx = ap (Bits 64) (omega arith)
      np (suc n) hx =
          (λ j. Bits 64 ((2 ^ 64 - cond (eqb (suc n) 0) (flip64 x hx h j) (flip64 x hx h j % suc n)) % 2 ^ 64))
          ∙ (λ j. Bits 64 ((2 ^ 64 - urem_suc (suc (2 ^ 64 - suc x)) n j) % 2 ^ 64)) ∙ ap (Bits 64) (turned64 (suc (2 ^ 64 - suc x) % suc n) (omega (arith, mod_small (suc (2 ^ 64 - suc x)) n)))

      nn : 2 ^ 63 ≤ x → 2 ^ 63 ≤ y → rest64 true true x y ≡ Bits 64 (word_of (remainder (negsuc (2 ^ 64 - suc x)) (negsuc (2 ^ 64 - suc y))))
      nn hx top =
          (λ j. Bits 64 ((2 ^ 64 - cond (eqb (flip64 y top l j) 0) (flip64 x hx h j) (flip64 x hx h j % flip64 y top l j)) % 2 ^ 64))
          ∙ (λ j. Bits 64 ((2 ^ 64 - urem_suc (suc (2 ^ 64 - suc x)) (2 ^ 64 - suc y) j) % 2 ^ 64)) ∙ ap (Bits 64) (turned64 (suc (2 ^ 64 - suc x) % suc (2 ^ 64 - suc y)) (omega (arith, mod_small (suc (2 ^ 64 - suc x)) (2 ^ 64 - suc y))))

  -- ---- division of 32 bits

  below_zero32 : (x : ℕ) → less_signed 32 x 0 ≡ is_negative 32 x
  below_zero32 x = go (is_negative 32 x)
    where
      go : (n : Bool) → cond n true (nat_lt x 0) ≡ n
      go true = refl
      go false = grind arith

  neg32 : ℕ → ℕ
  neg32 x = (2 ^ 32 - x) % 2 ^ 32

  quot32 : Bool → Bool → ℕ → ℕ → Value
  quot32 n m x y =
      cond (eqb y 0) (Bits 32 (2 ^ 32 - 1))
      (cond n
      (cond m (Bits 32 (cond (eqb ((2 ^ 32 - y) % 2 ^ 32) 0) (2 ^ 32 - 1) ((2 ^ 32 - x) % 2 ^ 32 / ((2 ^ 32 - y) % 2 ^ 32)))) (Bits 32 ((2 ^ 32 - cond (eqb y 0) (2 ^ 32 - 1) ((2 ^ 32 - x) % 2 ^ 32 / y)) % 2 ^ 32)))
      (cond m (Bits 32 ((2 ^ 32 - cond (eqb ((2 ^ 32 - y) % 2 ^ 32) 0) (2 ^ 32 - 1) (x / ((2 ^ 32 - y) % 2 ^ 32))) % 2 ^ 32)) (Bits 32 (cond (eqb y 0) (2 ^ 32 - 1) (x / y)))))

  rest32 : Bool → Bool → ℕ → ℕ → Value
  rest32 n m x y =
      cond n
      (cond m (Bits 32 ((2 ^ 32 - cond (eqb ((2 ^ 32 - y) % 2 ^ 32) 0) ((2 ^ 32 - x) % 2 ^ 32) ((2 ^ 32 - x) % 2 ^ 32 % ((2 ^ 32 - y) % 2 ^ 32))) % 2 ^ 32)) (Bits 32 ((2 ^ 32 - cond (eqb y 0) ((2 ^ 32 - x) % 2 ^ 32) ((2 ^ 32 - x) % 2 ^ 32 % y)) % 2 ^ 32)))
      (cond m (Bits 32 (cond (eqb ((2 ^ 32 - y) % 2 ^ 32) 0) x (x % ((2 ^ 32 - y) % 2 ^ 32)))) (Bits 32 (cond (eqb y 0) x (x % y))))

  nonzero32 : (n : ℕ) (A : Value) (B : Value) → cond (eqb (suc n) 0) A B ≡ B
  nonzero32 n A B = let e : eqb (suc n) 0 ≡ false = grind arith in ap (λ t. cond t A B) e

  some32 : (y : ℕ) (A : Value) (B : Value) → 0 < y → cond (eqb y 0) A B ≡ B
  some32 zero A B h = absurd (omega arith)
  some32 (suc n) A B h = nonzero32 n A B

  turned32 : (q : ℕ) → q ≤ 2 ^ 32 → (2 ^ 32 - q) % 2 ^ 32 ≡ word_of (neg_ℤ (pos q)) % 2 ^ 32
  turned32 zero h = refl
  turned32 (suc k) h = omega arith

  flip32 : (x : ℕ) → 2 ^ 31 ≤ x → x < 2 ^ 32 → (2 ^ 32 - x) % 2 ^ 32 ≡ suc (2 ^ 32 - suc x)
  flip32 x h l = omega arith

  quot_by32 : (x y : ℕ) → x < 2 ^ 32 → y < 2 ^ 32 → quot32 (is_negative 32 x) (is_negative 32 y) x y ≡ Bits 32 (word_of (quotient (signed_of 32 x) (signed_of 32 y)) % 2 ^ 32)
  unfolding quot32
  quot_by32 x y h l =
      by_sign 32 x (λ z n. quot32 n (is_negative 32 y) x y ≡ Bits 32 (word_of (quotient z (signed_of 32 y)) % 2 ^ 32)) h
      (λ low. by_sign 32 y (λ z m. quot32 false m x y ≡ Bits 32 (word_of (quotient (pos x) z) % 2 ^ 32)) l (λ _. pp y) (λ top. pn (omega (arith, top)) top))
      (λ hx. by_sign 32 y (λ z m. quot32 true m x y ≡ Bits 32 (word_of (quotient (negsuc (2 ^ 32 - suc x)) z) % 2 ^ 32)) l (λ _. np y hx) (λ top. nn (omega (arith, top)) hx top))
    where
      pp : (y : ℕ) → quot32 false false x y ≡ Bits 32 (word_of (quotient (pos x) (pos y)) % 2 ^ 32)
      pp zero = refl
      pp (suc n) = nonzero32 n _ _ ∙ ap (Bits 32) (udiv_suc x n (2 ^ 32 - 1) ∙ omega (arith, div_small x n))

      pn : 0 < y → 2 ^ 31 ≤ y → quot32 false true x y ≡ Bits 32 (word_of (quotient (pos x) (negsuc (2 ^ 32 - suc y))) % 2 ^ 32)
      pn p top =
          some32 y _ _ p ∙ (λ j. Bits 32 ((2 ^ 32 - cond (eqb (flip32 y top l j) 0) (2 ^ 32 - 1) (x / flip32 y top l j)) % 2 ^ 32))
          ∙ (λ j. Bits 32 ((2 ^ 32 - udiv_suc x (2 ^ 32 - suc y) (2 ^ 32 - 1) j) % 2 ^ 32)) ∙ ap (Bits 32) (turned32 (x / suc (2 ^ 32 - suc y)) (omega (arith, div_small x (2 ^ 32 - suc y))))

      np : (y : ℕ) → 2 ^ 31 ≤ x → quot32 true false x y ≡ Bits 32 (word_of (quotient (negsuc (2 ^ 32 - suc x)) (pos y)) % 2 ^ 32)
      np zero hx = refl
      np (suc n) hx =
          nonzero32 n _ _ ∙ (λ j. Bits 32 ((2 ^ 32 - cond (eqb (suc n) 0) (2 ^ 32 - 1) (flip32 x hx h j / suc n)) % 2 ^ 32))
          ∙ (λ j. Bits 32 ((2 ^ 32 - udiv_suc (suc (2 ^ 32 - suc x)) n (2 ^ 32 - 1) j) % 2 ^ 32)) ∙ ap (Bits 32) (turned32 (suc (2 ^ 32 - suc x) / suc n) (omega (arith, div_small (suc (2 ^ 32 - suc x)) n)))

      nn : 0 < y → 2 ^ 31 ≤ x → 2 ^ 31 ≤ y → quot32 true true x y ≡ Bits 32 (word_of (quotient (negsuc (2 ^ 32 - suc x)) (negsuc (2 ^ 32 - suc y))) % 2 ^ 32)
      nn p hx top =
          some32 y _ _ p ∙ (λ j. Bits 32 (cond (eqb (flip32 y top l j) 0) (2 ^ 32 - 1) (flip32 x hx h j / flip32 y top l j)))
          ∙ ap (Bits 32) (udiv_suc (suc (2 ^ 32 - suc x)) (2 ^ 32 - suc y) (2 ^ 32 - 1) ∙ omega (arith, div_small (suc (2 ^ 32 - suc x)) (2 ^ 32 - suc y)))

  rest_by32 : (x y : ℕ) → x < 2 ^ 32 → y < 2 ^ 32 → rest32 (is_negative 32 x) (is_negative 32 y) x y ≡ Bits 32 (word_of (remainder (signed_of 32 x) (signed_of 32 y)) % 2 ^ 32)
  unfolding rest32
  rest_by32 x y h l =
      by_sign 32 x (λ z n. rest32 n (is_negative 32 y) x y ≡ Bits 32 (word_of (remainder z (signed_of 32 y)) % 2 ^ 32)) h
      (λ low. by_sign 32 y (λ z m. rest32 false m x y ≡ Bits 32 (word_of (remainder (pos x) z) % 2 ^ 32)) l (λ _. pp y) (λ top. pn top))
      (λ hx. by_sign 32 y (λ z m. rest32 true m x y ≡ Bits 32 (word_of (remainder (negsuc (2 ^ 32 - suc x)) z) % 2 ^ 32)) l (λ _. np y hx) (λ top. nn hx top))
    where
      pp : (y : ℕ) → rest32 false false x y ≡ Bits 32 (word_of (remainder (pos x) (pos y)) % 2 ^ 32)
      pp zero = ap (Bits 32) (omega arith)
      pp (suc n) = ap (Bits 32) (urem_suc x n ∙ omega (arith, mod_small x n))

      pn : 2 ^ 31 ≤ y → rest32 false true x y ≡ Bits 32 (word_of (remainder (pos x) (negsuc (2 ^ 32 - suc y))) % 2 ^ 32)
      pn top =
          (λ j. Bits 32 (cond (eqb (flip32 y top l j) 0) x (x % flip32 y top l j)))
          ∙ ap (Bits 32) (urem_suc x (2 ^ 32 - suc y) ∙ omega (arith, mod_small x (2 ^ 32 - suc y)))

      np : (y : ℕ) → 2 ^ 31 ≤ x → rest32 true false x y ≡ Bits 32 (word_of (remainder (negsuc (2 ^ 32 - suc x)) (pos y)) % 2 ^ 32)
      np zero hx = ap (Bits 32) (omega arith)
      np (suc n) hx =
          (λ j. Bits 32 ((2 ^ 32 - cond (eqb (suc n) 0) (flip32 x hx h j) (flip32 x hx h j % suc n)) % 2 ^ 32))
          ∙ (λ j. Bits 32 ((2 ^ 32 - urem_suc (suc (2 ^ 32 - suc x)) n j) % 2 ^ 32)) ∙ ap (Bits 32) (turned32 (suc (2 ^ 32 - suc x) % suc n) (omega (arith, mod_small (suc (2 ^ 32 - suc x)) n)))

      nn : 2 ^ 31 ≤ x → 2 ^ 31 ≤ y → rest32 true true x y ≡ Bits 32 (word_of (remainder (negsuc (2 ^ 32 - suc x)) (negsuc (2 ^ 32 - suc y))) % 2 ^ 32)
      nn hx top =
          (λ j. Bits 32 ((2 ^ 32 - cond (eqb (flip32 y top l j) 0) (flip32 x hx h j) (flip32 x hx h j % flip32 y top l j)) % 2 ^ 32))
          ∙ (λ j. Bits 32 ((2 ^ 32 - urem_suc (suc (2 ^ 32 - suc x)) (2 ^ 32 - suc y) j) % 2 ^ 32)) ∙ ap (Bits 32) (turned32 (suc (2 ^ 32 - suc x) % suc (2 ^ 32 - suc y)) (omega (arith, mod_small (suc (2 ^ 32 - suc x)) (2 ^ 32 - suc y))))

  div : (x y : ℕ) → x < 2 ^ 64 → y < 2 ^ 64 → at Div x y ≡ Bits 64 (operation_value Div x y)
  unfolding quot64
  div x y h l = (λ j. quot64 (below_zero64 x j) (below_zero64 y j) x y) ∙ quot_by64 x y h l

  rem : (x y : ℕ) → x < 2 ^ 64 → y < 2 ^ 64 → at Rem x y ≡ Bits 64 (operation_value Rem x y)
  rem x y h l = (λ j. rest64 (below_zero64 x j) (below_zero64 y j) x y) ∙ rest_by64 x y h l

  -- a value of 32 bits with its sign extended
  extend_half : Value → Value
  extend_half v = of_bits (λ w a. Bits (w + 32) (extended_by 32 w a)) (v ∷ [])

  halves : (x : ℕ) → x / 1 % 2 ^ 32 ≡ x % 2 ^ 32
  halves x = omega arith

  divw : (x y : ℕ) → at Divw x y ≡ Bits 64 (operation_value Divw x y)
  unfolding extend_half quot32
  divw x y =
      (λ j. extend_half (quot32 (below_zero32 (x / 1 % 2 ^ 32) j) (below_zero32 (y / 1 % 2 ^ 32) j) (x / 1 % 2 ^ 32) (y / 1 % 2 ^ 32)))
      ∙ (λ j. extend_half (quot_by32 (x / 1 % 2 ^ 32) (y / 1 % 2 ^ 32) (omega arith) (omega arith) j))
      ∙ from_low (word_of (quotient (signed_of 32 (x / 1 % 2 ^ 32)) (signed_of 32 (y / 1 % 2 ^ 32))) % 2 ^ 32) (word_of (quotient (signed_low x) (signed_low y))) (omega arith)
      (λ j. word_of (quotient (signed_of 32 (halves x j)) (signed_of 32 (halves y j))) % 2 ^ 32)

  remw : (x y : ℕ) → at Remw x y ≡ Bits 64 (operation_value Remw x y)
  unfolding extend_half rest32
  remw x y =
      (λ j. extend_half (rest32 (below_zero32 (x / 1 % 2 ^ 32) j) (below_zero32 (y / 1 % 2 ^ 32) j) (x / 1 % 2 ^ 32) (y / 1 % 2 ^ 32)))
      ∙ (λ j. extend_half (rest_by32 (x / 1 % 2 ^ 32) (y / 1 % 2 ^ 32) (omega arith) (omega arith) j))
      ∙ from_low (word_of (remainder (signed_of 32 (x / 1 % 2 ^ 32)) (signed_of 32 (y / 1 % 2 ^ 32))) % 2 ^ 32) (word_of (remainder (signed_low x) (signed_low y))) (omega arith)
      (λ j. word_of (remainder (signed_of 32 (halves x j)) (signed_of 32 (halves y j))) % 2 ^ 32)

  udiv32 : (x y : ℕ) → x < 2 ^ 32 → cond (eqb y 0) (2 ^ 32 - 1) (x / y) ≡ word_of (quotient (pos x) (pos y)) % 2 ^ 32
  udiv32 x zero h = refl
  udiv32 x (suc n) h = udiv_suc x n (2 ^ 32 - 1) ∙ omega (arith, div_small x n)

  urem32 : (x y : ℕ) → x < 2 ^ 32 → cond (eqb y 0) x (x % y) ≡ word_of (remainder (pos x) (pos y)) % 2 ^ 32
  urem32 x zero h = omega arith
  urem32 x (suc n) h = urem_suc x n ∙ omega (arith, mod_small x n)

  divuw : (x y : ℕ) → at Divuw x y ≡ Bits 64 (operation_value Divuw x y)
  divuw x y =
      (λ j. Bits 64 (extended_by 32 32 (udiv32 (x / 1 % 2 ^ 32) (y / 1 % 2 ^ 32) (omega arith) j)))
      ∙ from_low (word_of (quotient (pos (x / 1 % 2 ^ 32)) (pos (y / 1 % 2 ^ 32))) % 2 ^ 32) (word_of (quotient (pos (low x)) (pos (low y)))) (omega arith)
      (λ j. word_of (quotient (pos (halves x j)) (pos (halves y j))) % 2 ^ 32)

  remuw : (x y : ℕ) → at Remuw x y ≡ Bits 64 (operation_value Remuw x y)
  remuw x y =
      (λ j. Bits 64 (extended_by 32 32 (urem32 (x / 1 % 2 ^ 32) (y / 1 % 2 ^ 32) (omega arith) j)))
      ∙ from_low (word_of (remainder (pos (x / 1 % 2 ^ 32)) (pos (y / 1 % 2 ^ 32))) % 2 ^ 32) (word_of (remainder (pos (low x)) (pos (low y)))) (omega arith)
      (λ j. word_of (remainder (pos (halves x j)) (pos (halves y j))) % 2 ^ 32)

  sraw_at : (x k : ℕ) → x < 2 ^ 32 → extended_by 32 32 (shifted_right 32 x k) ≡ word_of (floor_of (signed_of 32 x) (2 ^ k))
  sraw_at x k h =
      by_sign 32 x (λ z n. extended_by 32 32 (cond n (2 ^ 32 - 1 - (2 ^ 32 - 1 - x) / 2 ^ k) (x / 2 ^ k)) ≡ word_of (floor_of z (2 ^ k))) h
      (λ l. let q = shr_le x k in ext_low (x / 2 ^ k) (omega (arith, q)) ∙ ap word_of (signed_below 32 (x / 2 ^ k) (omega (arith, q))))
      (λ l. let q = shr_le (2 ^ 32 - 1 - x) k in
      let e : 2 ^ 32 - 1 - x ≡ 2 ^ 32 - suc x = omega arith in
      let f = ap (λ n. n / 2 ^ k) e in
      ext_low (2 ^ 32 - 1 - (2 ^ 32 - 1 - x) / 2 ^ k) (omega arith)
      ∙ ap word_of (signed_above 32 (2 ^ 32 - 1 - (2 ^ 32 - 1 - x) / 2 ^ k) (omega (arith, q)) (omega arith)) ∙ omega (arith, q, f))

  sraw : (x y : ℕ) → at Sraw x y ≡ Bits 64 (operation_value Sraw x y)
  sraw x y =
      (λ j. Bits 64 (extended_by 32 32 (shifted_right 32 (halves x j) (half_shift y j)))) ∙ ap (Bits 64) (sraw_at (x % 2 ^ 32) (half_amount y) (omega arith))

  -- ---- all

  pub operations : (op : Op) (x y : ℕ) → x < 2 ^ 64 → y < 2 ^ 64 → at op x y ≡ Bits 64 (operation_value op x y)
  operations Add x y h l = refl
  operations Sub x y h l = refl
  operations Sll x y h l = sll x y
  operations Slt x y h l = slt x y h l
  operations Sltu x y h l = sltu x y
  operations Xor x y h l = refl
  operations Srl x y h l = srl x y
  operations Sra x y h l = sra x y h
  operations Or x y h l = refl
  operations And x y h l = refl
  operations Mul x y h l = refl
  operations Mulh x y h l = mulh x y h l
  operations Mulhsu x y h l = mulhsu x y h l
  operations Mulhu x y h l = mulhu x y h l
  operations Div x y h l = div x y h l
  operations Divu x y h l = divu x y h
  operations Rem x y h l = rem x y h l
  operations Remu x y h l = remu x y h
  operations Addw x y h l = addw x y
  operations Subw x y h l = subw x y
  operations Sllw x y h l = sllw x y
  operations Srlw x y h l = srlw x y
  operations Sraw x y h l = sraw x y
  operations Mulw x y h l = mulw x y
  operations Divw x y h l = divw x y
  operations Divuw x y h l = divuw x y
  operations Remw x y h l = remw x y
  operations Remuw x y h l = remuw x y
