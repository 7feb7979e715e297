-- The one spelling of a number, from its digits on.
use Rattle.std.proofs.Common.{◌≡◌, ℕ, zero, suc, ◌+◌, ◌*◌, ◌/◌, ◌%◌, ◌^◌, ◌<◌, ◌≤◌, ◌⊎◌, ⊎_elim, Bool, true, false, ◌&&◌, cond, eqb, ltb, List, [], ◌∷◌, ◌++◌, length, get_or, take, Option, Some, None, refl, sym, ap, subst, ◌∙◌, append_assoc, append-nil, arith, inl, inr}
use Rattle.std.proofs.Math.Nat.{pow-suc}
use Rattle.std.proofs.lemmas.Bool.Decides.{nat_tests}
use Rattle.std.proofs.lemmas.Bool.{and_from, eqb-true, eqb-false, eq-eqb, ne_eqb, ltb-true, ltb-false, lt-ltb}
use Rattle.std.specs.List.{AllPass}
use Rattle.std.specs.Char.{digit_value}
use Rattle.std.specs.Str.Parse.{AllDigits, digits_value, digits_value_after}
use Rattle.std.specs.Fmt.{digits, digits_onto, digit_glyph}
use Rattle.std.proofs.lemmas.Fmt.{decimal-digits_value, digits_is_IsNumeral}
use Rattle.std.proofs.lemmas.Int.Digits.{digits_value_more}
use Rattle.std.proofs.lemmas.List.Elements.{All-more, All-from_recursion, recursion_from_All}
use Rattle.std.proofs.lemmas.Str.{digit_value-digit_char}
use Rattle.std.proofs.lemmas.Str.Parse.{numerals_by_value, tells_digits, digits_value-take-le}
use Rattle.mc_text.specs.declared.number.Base.{Base}
use Rattle.mc_text.specs.declared.number.Base.TheVariants.{Decimal, Hexadecimal}
use Rattle.mc_text.specs.Number.{number_of}
use Rattle.mc_text.specs.inner.Number.{base_number, is_digit_of, is_padded, ReadsDigits}
use Rattle.mc_text.proofs.Numbers.{Pass, Passes, digits-pass, base_number-low, base_number-high, wide, number-found, number-none}

-- ---- reading digit by digit

module _ (base radix : ℕ) (ds : List ℕ) (i value digit : ℕ) (some : 1 ≤ base) (same : radix ≡ base) (inside : i < length ds) (read : value ≡ digits_value base (take i ds)) (is : digit ≡ digit_value (get_or ds i 0)) where
  next_value : digits_value base (take (i + 1) ds) ≡ value * radix + digit
  next_value = rw (digits_value_more base ds i inside, read, is, same) refl

  pub too_large : 2 ^ 64 ≤ value * radix + digit → ReadsDigits base ds None
  too_large large = λ all small. omega (arith, large, small, next_value, digits_value-take-le base ds (i + 1) some)

  pub one_digit_more : (next : ℕ) → AllPass (is_digit_of base) (take i ds) → is_digit_of base (get_or ds i 0) ≡ true → next ≡ value * radix + digit
      → next < 2 ^ 64 → AllPass (is_digit_of base) (take (i + 1) ds) × (next ≡ digits_value base (take (i + 1) ds)) × (next < 2 ^ 64)
  one_digit_more next all here e small = (All-more (λ c. is_digit_of base c ≡ true) ds i 0 inside all here, e ∙ sym next_value, small)

-- ---- a number in hexadecimal digits, without leading zeros, has these digits

glyph : ℕ → ℕ
glyph n = digit_glyph false (n % 16)

spelled_last : (k n : ℕ) (acc : List ℕ) → n < 16 → digits_onto (suc k) 16 false n acc ≡ glyph n ∷ acc
unfolding glyph
spelled_last k n acc h = ap (λ (t : Bool). cond t (glyph n ∷ acc) (digits_onto k 16 false (n / 16) (glyph n ∷ acc))) (eq-eqb (n / 16) 0 (omega arith))

spelled_next : (k n : ℕ) (acc : List ℕ) → 16 ≤ n → digits_onto (suc k) 16 false n acc ≡ digits_onto k 16 false (n / 16) (glyph n ∷ acc)
unfolding glyph
spelled_next k n acc h = ap (λ (t : Bool). cond t (glyph n ∷ acc) (digits_onto k 16 false (n / 16) (glyph n ∷ acc))) (ne_eqb (n / 16) 0 (λ e. omega arith))

split : (n : ℕ) → (n < 16) ⊎ (16 ≤ n)
split n = choose (ltb n 16) refl
  where
    choose : (b : Bool) → ltb n 16 ≡ b → (n < 16) ⊎ (16 ≤ n)
    choose true e = inl (ltb-true n 16 e)
    choose false e = inr (ltb-false n 16 e)

-- more digits may be allowed than there are
spelled_enough : (j k n : ℕ) (acc : List ℕ) → n < 16 ^ suc j → n < 16 ^ suc k → digits_onto (suc j) 16 false n acc ≡ digits_onto (suc k) 16 false n acc
spelled_enough zero k n acc p q = spelled_last zero n acc (omega arith) ∙ sym (spelled_last k n acc (omega arith))
spelled_enough (suc j) zero n acc p q = spelled_last (suc j) n acc (omega arith) ∙ sym (spelled_last zero n acc (omega arith))
spelled_enough (suc j) (suc k) n acc p q = ⊎_elim
    (λ l. spelled_last (suc j) n acc l ∙ sym (spelled_last (suc k) n acc l))
    (λ l. spelled_next (suc j) n acc l ∙ spelled_enough j k (n / 16) (glyph n ∷ acc) (omega (arith, pow-suc 16 (suc j))) (omega (arith, pow-suc 16 (suc k))) ∙ sym (spelled_next (suc k) n acc l))
    (split n)

spelled-append : (k n : ℕ) (acc : List ℕ) → digits_onto k 16 false n acc ≡ digits_onto k 16 false n [] ++ acc
spelled-append zero n acc = refl
spelled-append (suc k) n acc = ⊎_elim
    (λ l. spelled_last k n acc l ∙ ap (λ x. x ++ acc) (sym (spelled_last k n [] l)))
    (λ l. spelled_next k n acc l ∙ spelled-append k (n / 16) (glyph n ∷ acc) ∙ sym (append_assoc (digits_onto k 16 false (n / 16) []) (glyph n ∷ []) acc)
    ∙ ap (λ x. x ++ acc) (sym (spelled_next k n [] l ∙ spelled-append k (n / 16) (glyph n ∷ []))))
    (split n)

one_hex : (n : ℕ) → n < 16 → digits 16 false n ≡ digit_glyph false n ∷ []
unfolding digits glyph
one_hex n small = let e : n % 16 ≡ n = omega arith in spelled_last 63 n [] small ∙ ap (λ (k : ℕ). digit_glyph false k ∷ []) e

hex_step : (n : ℕ) → 16 ≤ n → n < 2 ^ 64 → digits 16 false n ≡ digits 16 false (n / 16) ++ (glyph n ∷ [])
unfolding digits
hex_step n large small = spelled_next 63 n [] large ∙ spelled_enough 62 63 (n / 16) (glyph n ∷ []) (omega arith) (omega arith) ∙ spelled-append 64 (n / 16) (glyph n ∷ [])

both-true : (a b : Bool) → (a && b) ≡ true → (a ≡ true) × (b ≡ true)
both-true true true e = (refl, refl)
both-true true false e = absurd cc
both-true false b e = absurd cc

-- a digit is what its value is written with
pub parted : (base c : ℕ) → is_digit_of base c ≡ true → (digit_value c < base) × (digit_glyph false (digit_value c) ≡ c)
parted base c e = let h = both-true (ltb (digit_value c) base) (eqb (digit_glyph false (digit_value c)) c) e in (ltb-true _ _ h.0, eqb-true _ _ h.1)

le_value_after : (n : ℕ) (ds : List ℕ) → n ≤ digits_value_after 16 n ds
le_value_after n [] = omega arith
le_value_after n (c ∷ cs) = omega (arith, le_value_after (n * 16 + digit_value c) cs)

hex_after : (n : ℕ) (ds : List ℕ) → 0 < n → Pass (is_digit_of 16) ds → digits_value_after 16 n ds < 2 ^ 64 → digits 16 false (digits_value_after 16 n ds) ≡ digits 16 false n ++ ds
unfolding glyph
hex_after n [] some d small = sym (append-nil (digits 16 false n))
hex_after n (c ∷ cs) some d small =
    let m : ℕ = n * 16 + digit_value c in
    let k = parted 16 c d.0 in
    let front : m / 16 ≡ n = omega (arith, k.0) in
    let low : m % 16 ≡ digit_value c = omega (arith, k.0) in
    let end : glyph m ≡ c = ap (digit_glyph false) low ∙ k.1 in
    hex_after m cs (omega arith) d.1 small
    ∙ ap (λ x. x ++ cs) (hex_step m (omega arith) (omega (arith, le_value_after m cs)) ∙ (λ i. digits 16 false (front i) ++ (end i ∷ [])))
    ∙ append_assoc (digits 16 false n) (c ∷ []) cs

hex_canonical : (ds : List ℕ) → Pass (is_digit_of 16) ds → 0 < length ds → (get_or ds 0 0 ≡ 48 → length ds ≡ 1) → digits_value 16 ds < 2 ^ 64 → digits 16 false (digits_value 16 ds) ≡ ds
hex_canonical [] d some lead small = absurd (omega arith)
hex_canonical (c ∷ []) d some lead small =
    let k = parted 16 c d.0 in
    let e : 0 * 16 + digit_value c ≡ digit_value c = omega arith in
    ap (digits 16 false) e ∙ one_hex (digit_value c) k.0 ∙ ap (λ x. x ∷ []) k.1
hex_canonical (c ∷ e ∷ cs) d some lead small =
    let k = parted 16 c d.0 in
    let not_zero : digit_value c ≡ 0 → ⊥ = λ z. omega (arith, lead (sym k.1 ∙ ap (digit_glyph false) z)) in
    let same : 0 * 16 + digit_value c ≡ digit_value c = omega arith in
    hex_after (0 * 16 + digit_value c) (e ∷ cs) (omega (arith, not_zero)) d.1 small
    ∙ ap (λ x. x ++ (e ∷ cs)) (ap (digits 16 false) same ∙ one_hex (digit_value c) k.0 ∙ ap (λ x. x ∷ []) k.1)

-- ---- the same for both bases

all_digits : (base : ℕ) (ds : List ℕ) → Pass (is_digit_of base) ds → AllDigits base ds
all_digits base [] d = tt
all_digits base (c ∷ cs) d = ((parted base c d.0).0, all_digits base cs d.1)

canonical : (b : Base) (ds : List ℕ) → Pass (is_digit_of (base_number b)) ds → 0 < length ds → (get_or ds 0 0 ≡ 48 → length ds ≡ 1) → digits_value (base_number b) ds < 2 ^ 64
    → digits (base_number b) false (digits_value (base_number b) ds) ≡ ds
canonical Decimal ds d some lead small = decimal-digits_value (numerals_by_value (AllDigits 10) tells_digits) ds (all_digits 10 ds d) some lead small
canonical Hexadecimal ds d some lead small = hex_canonical ds d some lead small

glyph_passes : (base : ℕ) → base ≤ 16 → Passes (is_digit_of base) base
glyph_passes base high d lt =
    let e : digit_value (digit_glyph false d) ≡ d = digit_value-digit_char d (omega (arith, lt)) in
    and_from _ _ (ap (λ (k : ℕ). ltb k base) e ∙ lt-ltb d base lt) (eq-eqb _ _ (ap (digit_glyph false) e))

module _ (b : Base) where
  spelled-passes : (n : ℕ) (ds : List ℕ) → ds ≡ digits (base_number b) false n → Pass (is_digit_of (base_number b)) ds
  spelled-passes n ds e =
      subst (Pass (is_digit_of (base_number b))) (sym e) (digits-pass (is_digit_of (base_number b)) (base_number b) n (omega (arith, base_number-low b)) (glyph_passes (base_number b) (base_number-high b)))

  spelled-numeral : (n : ℕ) (ds : List ℕ) → n < 2 ^ 64 → ds ≡ digits (base_number b) false n → (0 < length ds) × (digits_value (base_number b) ds ≡ n)
  spelled-numeral n ds lt e =
      let h = digits_is_IsNumeral (base_number b) false (base_number-low b) (base_number-high b) n (wide (base_number b) n (base_number-low b) lt) in
      (subst (λ (xs : List ℕ). 0 < length xs) (sym e) h.0.0, ap (digits_value (base_number b)) e ∙ h.1)

  -- zeros in front make it no longer than it is without them
  not_longer : (c : ℕ) (cs : List ℕ) → Pass (is_digit_of (base_number b)) (c ∷ cs) → digits_value (base_number b) (c ∷ cs) < 2 ^ 64
      → length (digits (base_number b) false (digits_value (base_number b) (c ∷ cs))) ≤ length (c ∷ cs)
  not_longer c [] d small = omega (arith, ap length (canonical b (c ∷ []) d (omega arith) (λ _. refl) small))
  not_longer c (e ∷ cs) d small = choose (eqb c 48) refl (not_longer e cs d.1)
    where
      choose : (t : Bool) → eqb c 48 ≡ t
          → (digits_value (base_number b) (e ∷ cs) < 2 ^ 64 → length (digits (base_number b) false (digits_value (base_number b) (e ∷ cs))) ≤ length (e ∷ cs))
          → length (digits (base_number b) false (digits_value (base_number b) (c ∷ e ∷ cs))) ≤ length (c ∷ e ∷ cs)
      choose false f ih = omega (arith, ap length (canonical b (c ∷ e ∷ cs) d (omega arith) (λ z. absurd (eqb-false c 48 f z)) small))
      choose true z ih =
          let zero_is : c ≡ 48 = eqb-true c 48 z in
          let start : 0 * base_number b + digit_value c ≡ 0 = omega (arith, ap digit_value zero_is) in
          let same : digits_value (base_number b) (c ∷ e ∷ cs) ≡ digits_value (base_number b) (e ∷ cs) = ap (λ (k : ℕ). digits_value_after (base_number b) k (e ∷ cs)) start in
          omega (arith, ih (omega (arith, same, small)), ap (λ (k : ℕ). length (digits (base_number b) false k)) same)

  zero_in_front : (c : ℕ) (cs : List ℕ) (n : ℕ) → n < 2 ^ 64 → 48 ∷ c ∷ cs ≡ digits (base_number b) false n → ⊥
  zero_in_front c cs n lt e =
      let is = spelled-numeral n (48 ∷ c ∷ cs) lt e in
      let start : 0 * base_number b + digit_value 48 ≡ 0 = omega arith in
      let same : digits_value (base_number b) (c ∷ cs) ≡ n = sym (ap (λ (k : ℕ). digits_value_after (base_number b) k (c ∷ cs)) start) ∙ is.1 in
      let short = not_longer c cs (spelled-passes n (48 ∷ c ∷ cs) e).1 (omega (arith, same, lt)) in
      omega (arith, short, ap (λ (k : ℕ). length (digits (base_number b) false k)) same, ap length e)

  -- ---- what the reader of digits answers

  none_of_padded : (ds : List ℕ) → 2 ≤ length ds → get_or ds 0 0 ≡ 48 → None ≡ number_of (base_number b) ds
  none_of_padded [] long z = absurd (omega arith)
  none_of_padded (c ∷ []) long z = absurd (omega arith)
  none_of_padded (c ∷ d ∷ ds) long z = number-none b (c ∷ d ∷ ds) (λ n lt e. zero_in_front d ds n lt (ap (λ (k : ℕ). k ∷ d ∷ ds) (sym z) ∙ e))

  pub no_number : (ds : List ℕ) → (length ds ≡ 0) ⊎ (is_padded ds ≡ true) → None ≡ number_of (base_number b) ds
  no_number ds (inl z) = number-none b ds (λ n lt e. omega (arith, z, (spelled-numeral n ds lt e).0))
  no_number ds (inr p) = let h = both-true (ltb 1 (length ds)) (eqb (get_or ds 0 0) 48) p in none_of_padded ds (omega (arith, ltb-true _ _ h.0)) (eqb-true _ _ h.1)

  pub plain_number : (ds : List ℕ) (o : Option ℕ) → (length ds ≡ 0 → ⊥) → is_padded ds ≡ false → ReadsDigits (base_number b) ds o → o ≡ number_of (base_number b) ds
  plain_number ds (Some n) some plain h =
      let lead : get_or ds 0 0 ≡ 48 → length ds ≡ 1 = λ z. grind (arith, nat_tests) in
      let e = canonical b ds (recursion_from_All _ ds h.0) (omega (arith, some)) lead (omega (arith, h.1, h.2)) in
      number-found b ds n h.2 (ap (digits (base_number b) false) h.1 ∙ e)
  plain_number ds None some plain h =
      number-none b ds (λ n lt e. h (All-from_recursion _ ds (spelled-passes n ds e)) (omega (arith, (spelled-numeral n ds lt e).1, lt)))
