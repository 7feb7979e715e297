-- Numerals, digit by digit.
use Rattle.std.proofs.Common.{◌≡◌, ℕ, ◌+◌, ◌*◌, ◌%◌, ◌^◌, ◌<◌, ◌≤◌, min, Bool, true, false, cond, List, [], ◌∷◌, length, get_or, drop, eqb, Option, Some, None, option_map, refl, sym, ap, subst, ◌∙◌, ⊎_elim, arith}
use Rattle.std.specs.Prelude.{not, nat_lt, ◌&&◌}
use Rattle.std.specs.Char.{digit_value, is_digit}
use Rattle.std.specs.Str.Parse.{digits_value_after, digits_value}
use Rattle.std.proofs.lemmas.Bool.{lt-ltb, cases_lt}
use Rattle.std.proofs.lemmas.List.{drop_more, drop_all}
use Rattle.std.proofs.lemmas.Nat.{mul-mod_first}
use Rattle.std.proofs.Math.Nat.{mod-mod, mod-add-mod, mod-eq_of_lt, min-eq_left, min-eq_right, min-le_right}
use Rattle.smt_terms.specs.Meaning.{are_digits, has_leading_zero, numeral}

-- a digit, or none
abbrev pub digit_of : ℕ → Option ℕ
digit_of c = cond (is_digit c 10) (Some (digit_value c)) None

by-test : (b : Bool) (v d : ℕ) (o : Option ℕ) → o ≡ cond b (Some v) None → o ≡ Some d → (b ≡ true) × (v ≡ d)
by-test true v d o e h = let same : Some v ≡ Some d = sym e ∙ h in (refl, (cc))
by-test false v d o e h = absurd (cc)

by-none : (b : Bool) (v : ℕ) (o : Option ℕ) → o ≡ cond b (Some v) None → o ≡ None → b ≡ false
by-none true v o e h = absurd (cc)
by-none false v o e h = refl

both-digits : (text : List ℕ) (i z : ℕ) (b : Bool) → i < length text → is_digit (get_or text i z) 10 ≡ b → are_digits (drop i text) ≡ (b && are_digits (drop (i + 1) text))
both-digits text i z b lt e = ap are_digits (drop_more text i z lt) ∙ (λ j. e j && are_digits (drop (i + 1) text))

digits-more : (text : List ℕ) (i z d : ℕ) (o : Option ℕ) → i < length text → o ≡ digit_of (get_or text i z) → o ≡ Some d → are_digits (drop i text) ≡ are_digits text → are_digits (drop (i + 1) text) ≡ are_digits text
digits-more text i z d o lt e h told = sym (both-digits text i z true lt (by-test (is_digit (get_or text i z) 10) (digit_value (get_or text i z)) d o e h).0) ∙ told

-- a numeral is told by its digits
numeral-none : (text : List ℕ) → are_digits text ≡ false → numeral text ≡ None
numeral-none [] e = refl
numeral-none (c ∷ cs) e = let h : 0 < length (c ∷ cs) = omega arith in λ j. cond (lt-ltb 0 (length (c ∷ cs)) h j && e j && not (has_leading_zero (c ∷ cs))) (Some (digits_value 10 (c ∷ cs))) None

numeral-some : (text : List ℕ) → 0 < length text → are_digits text ≡ true → has_leading_zero text ≡ false → numeral text ≡ Some (digits_value 10 text)
numeral-some text h e z = λ j. cond (lt-ltb 0 (length text) h j && e j && not (z j)) (Some (digits_value 10 text)) None

-- and none begins with a zero that more follow
none-of : (a b : Bool) → (a && b && false) ≡ false
none-of true true = refl
none-of true false = refl
none-of false b = refl

pub leading_zero : (f : ℕ → ℕ) (text : List ℕ) → has_leading_zero text ≡ true → None ≡ option_map f (numeral text)
leading_zero f text z =
    sym ((λ j. option_map f (cond (nat_lt 0 (length text) && are_digits text && not (z j)) (Some (digits_value 10 text)) None))
    ∙ (λ j. option_map f (cond (none-of (nat_lt 0 (length text)) (are_digits text) j) (Some (digits_value 10 text)) None)))

pub zero_first : (text : List ℕ) (c : ℕ) → 2 ≤ length text → c ≡ get_or text 0 c → eqb c 48 ≡ has_leading_zero text
zero_first [] c le is = absurd (omega (arith, le))
zero_first (d ∷ []) c le is = absurd (omega (arith, le))
zero_first (d ∷ e ∷ ds) c le is = λ j. eqb (is j) 48

pub zero_alone : (text : List ℕ) → length text < 2 → false ≡ has_leading_zero text
zero_alone [] lt = refl
zero_alone (d ∷ []) lt = refl
zero_alone (d ∷ e ∷ ds) lt = absurd (omega (arith, lt))

no-digit : (text : List ℕ) (i z : ℕ) (o : Option ℕ) → i < length text → o ≡ digit_of (get_or text i z) → o ≡ None → are_digits (drop i text) ≡ are_digits text → numeral text ≡ None
no-digit text i z o lt e h told =
    numeral-none text (sym told ∙ both-digits text i z false lt (by-none (is_digit (get_or text i z) 10) (digit_value (get_or text i z)) o e h))

all-digits : (text : List ℕ) (i : ℕ) → length text ≤ i → are_digits (drop i text) ≡ are_digits text → are_digits text ≡ true
all-digits text i le told = sym told ∙ ap are_digits (drop_all i text le)

value-more : (text : List ℕ) (i z n d : ℕ) (o : Option ℕ) → i < length text → o ≡ digit_of (get_or text i z) → o ≡ Some d → digits_value_after 10 n (drop i text) ≡ digits_value_after 10 (n * 10 + d) (drop (i + 1) text)
value-more text i z n d o lt e h =
    ap (digits_value_after 10 n) (drop_more text i z lt)
    ∙ (λ j. digits_value_after 10 (n * 10 + (by-test (is_digit (get_or text i z) 10) (digit_value (get_or text i z)) d o e h).1 j) (drop (i + 1) text))

-- ---- modulo m

after-mod : (n m : ℕ) (ds : List ℕ) → digits_value_after 10 (n % m) ds % m ≡ digits_value_after 10 n ds % m
after-mod n m [] = mod-mod n m
after-mod n m (c ∷ cs) =
    let v = digit_value c in
    let same : (n % m * 10 + v) % m ≡ (n * 10 + v) % m = sym (mod-add-mod (n % m * 10) m v) ∙ ap (λ (k : ℕ). (k + v) % m) (mul-mod_first n 10 m) ∙ mod-add-mod (n * 10) m v in
    sym (after-mod (n % m * 10 + v) m cs) ∙ ap (λ (k : ℕ). digits_value_after 10 k cs % m) same ∙ after-mod (n * 10 + v) m cs

pub record ReadWrapped (text : List ℕ) (i n : ℕ) : Type 0 where
  pub digits : are_digits (drop i text) ≡ are_digits text
  pub value : digits_value_after 10 n (drop i text) % 2 ^ 128 ≡ digits_value 10 text % 2 ^ 128

pub wrapped_first : (text : List ℕ) → ReadWrapped text 0 0
wrapped_first text = record { digits = refl; value = refl }

pub wrapped_more : (text : List ℕ) (i z n d after : ℕ) (o : Option ℕ) → i < length text → o ≡ digit_of (get_or text i z) → o ≡ Some d → after ≡ (n * 10 % 2 ^ 128 + d) % 2 ^ 128 → ReadWrapped text i n → ReadWrapped text (i + 1) after
wrapped_more text i z n d after o lt e h is r = record {
  digits = digits-more text i z d o lt e h r.digits;
  value =
      ap (λ (k : ℕ). digits_value_after 10 k (drop (i + 1) text) % 2 ^ 128) (is ∙ mod-add-mod (n * 10) (2 ^ 128) d)
      ∙ after-mod (n * 10 + d) (2 ^ 128) (drop (i + 1) text)
      ∙ ap (λ (k : ℕ). k % 2 ^ 128) (sym (value-more text i z n d o lt e h))
      ∙ r.value;
}

pub wrapped_none : (text : List ℕ) (i z n : ℕ) (o : Option ℕ) → i < length text → o ≡ digit_of (get_or text i z) → o ≡ None → ReadWrapped text i n → None ≡ option_map (λ (n : ℕ). n % 2 ^ 128) (numeral text)
wrapped_none text i z n o lt e h r = sym (ap (option_map (λ (n : ℕ). n % 2 ^ 128)) (no-digit text i z o lt e h r.digits))

pub wrapped_done : (text : List ℕ) (i n : ℕ) → 0 < length text → has_leading_zero text ≡ false → length text ≤ i → n < 2 ^ 128 → ReadWrapped text i n → Some n ≡ option_map (λ (n : ℕ). n % 2 ^ 128) (numeral text)
wrapped_done text i n some first le lt r =
    let value : n % 2 ^ 128 ≡ digits_value 10 text % 2 ^ 128 = sym (ap (λ (ds : List ℕ). digits_value_after 10 n ds % 2 ^ 128) (drop_all i text le)) ∙ r.value in
    ap Some (sym (mod-eq_of_lt lt) ∙ value) ∙ sym (ap (option_map (λ (n : ℕ). n % 2 ^ 128)) (numeral-some text some (all-digits text i le r.digits) first))

-- ---- up to 129

after-least : (n : ℕ) (ds : List ℕ) → n ≤ digits_value_after 10 n ds
after-least n [] = omega arith
after-least n (c ∷ cs) = let h : n * 10 + digit_value c ≤ digits_value_after 10 (n * 10 + digit_value c) cs = after-least (n * 10 + digit_value c) cs in omega arith

after-min : (n : ℕ) (ds : List ℕ) → min (digits_value_after 10 (min n 129) ds) 129 ≡ min (digits_value_after 10 n ds) 129
after-min n ds = ⊎_elim large small (cases_lt 129 n)
  where
    small : n ≤ 129 → min (digits_value_after 10 (min n 129) ds) 129 ≡ min (digits_value_after 10 n ds) 129
    small le = ap (λ (k : ℕ). min (digits_value_after 10 k ds) 129) (min-eq_left le)

    large : 129 < n → min (digits_value_after 10 (min n 129) ds) 129 ≡ min (digits_value_after 10 n ds) 129
    large lt =
        let le : 129 ≤ n = omega arith in
        let a : n ≤ digits_value_after 10 n ds = after-least n ds in
        let b : 129 ≤ digits_value_after 10 129 ds = after-least 129 ds in
        let c : 129 ≤ digits_value_after 10 n ds = omega arith in
        ap (λ (k : ℕ). min (digits_value_after 10 k ds) 129) (min-eq_right le) ∙ min-eq_right b ∙ sym (min-eq_right c)

pub record ReadSmall (text : List ℕ) (i n : ℕ) : Type 0 where
  pub digits : are_digits (drop i text) ≡ are_digits text
  pub value : min (digits_value_after 10 n (drop i text)) 129 ≡ min (digits_value 10 text) 129
  pub small : n ≤ 129

pub small_first : (text : List ℕ) → ReadSmall text 0 0
small_first text = record { digits = refl; value = refl; small = omega arith }

pub small_more : (text : List ℕ) (i z n d after : ℕ) (o : Option ℕ) → i < length text → o ≡ digit_of (get_or text i z) → o ≡ Some d → after ≡ min (n * 10 + d) 129 → ReadSmall text i n → ReadSmall text (i + 1) after
small_more text i z n d after o lt e h is r = record {
  digits = digits-more text i z d o lt e h r.digits;
  value =
      ap (λ (k : ℕ). min (digits_value_after 10 k (drop (i + 1) text)) 129) is
      ∙ after-min (n * 10 + d) (drop (i + 1) text)
      ∙ ap (λ (k : ℕ). min k 129) (sym (value-more text i z n d o lt e h))
      ∙ r.value;
  small = subst (λ (k : ℕ). k ≤ 129) (sym is) (min-le_right (n * 10 + d) 129);
}

pub small_none : (text : List ℕ) (i z n : ℕ) (o : Option ℕ) → i < length text → o ≡ digit_of (get_or text i z) → o ≡ None → ReadSmall text i n → None ≡ option_map (λ (n : ℕ). min n 129) (numeral text)
small_none text i z n o lt e h r = sym (ap (option_map (λ (n : ℕ). min n 129)) (no-digit text i z o lt e h r.digits))

pub small_done : (text : List ℕ) (i n : ℕ) → 0 < length text → has_leading_zero text ≡ false → length text ≤ i → ReadSmall text i n → Some n ≡ option_map (λ (n : ℕ). min n 129) (numeral text)
small_done text i n some first le r =
    let value : min n 129 ≡ min (digits_value 10 text) 129 = sym (ap (λ (ds : List ℕ). min (digits_value_after 10 n ds) 129) (drop_all i text le)) ∙ r.value in
    ap Some (sym (min-eq_left r.small) ∙ value) ∙ sym (ap (option_map (λ (n : ℕ). min n 129)) (numeral-some text some (all-digits text i le r.digits) first))

-- what a small numeral tells
pub told-small : (o r : Option ℕ) (k : ℕ) → r ≡ option_map (λ (n : ℕ). min n 129) o → r ≡ Some k → (n : ℕ) × (o ≡ Some n) × (k ≡ min n 129)
told-small None r k e h = absurd (cc)
told-small (Some n) r k e h = let same : Some k ≡ Some (min n 129) = sym h ∙ e in (n, refl, (cc))
