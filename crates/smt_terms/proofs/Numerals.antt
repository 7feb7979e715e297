-- Decimals are numerals.
use Rattle.std.proofs.Common.{◌≡◌, ℕ, zero, suc, ◌<◌, ◌^◌, Bool, true, false, List, [], ◌∷◌, length, get_or, eqb, Some, None, cond, refl, arith}
use Rattle.std.specs.Prelude.{not, ◌&&◌}
use Rattle.std.specs.Char.{digit_value}
use Rattle.std.specs.Fmt.{decimal, digits}
use Rattle.std.specs.Str.Parse.{AllDigits}
use Rattle.std.proofs.lemmas.Bool.{lt-ltb, eqb-true}
use Rattle.std.proofs.lemmas.Fmt.{decimal_is_IsNumeral, first_decimal}
use Rattle.smt_terms.specs.Meaning.{are_digits, has_leading_zero, is_numeral, numeral}

are_digits-all : (ds : List ℕ) → AllDigits 10 ds → are_digits ds ≡ true
are_digits-all [] h = refl
are_digits-all (c ∷ cs) h = λ j. lt-ltb (digit_value c) 10 h.0 j && are_digits-all cs h.1 j

-- the first isn't 0, where there are more
no-zero : (ds : List ℕ) → 48 < get_or ds 0 0 → has_leading_zero ds ≡ false
no-zero [] h = refl
no-zero (c ∷ []) h = refl
no-zero (c ∷ d ∷ ds) h = by (eqb c 48) refl
  where
    by : (b : Bool) → eqb c 48 ≡ b → b ≡ false
    by true e = absurd (omega (arith, h, eqb-true c 48 e))
    by false e = refl

zero-alone : has_leading_zero (decimal 0) ≡ false
unfolding digits
zero-alone = refl

no-zero-decimal : (n : ℕ) → n < 2 ^ 64 → has_leading_zero (decimal n) ≡ false
no-zero-decimal zero h = zero-alone
no-zero-decimal (suc n) h = no-zero (decimal (suc n)) (first_decimal (suc n) (omega arith) h)

is_numeral-decimal : (n : ℕ) → n < 2 ^ 64 → is_numeral (decimal n) ≡ true
is_numeral-decimal n h =
    let d = decimal_is_IsNumeral n h in
    λ j. lt-ltb 0 (length (decimal n)) d.0.0 j && are_digits-all (decimal n) d.0.1 j && not (no-zero-decimal n h j)

pub numeral-decimal : (n : ℕ) → n < 2 ^ 64 → numeral (decimal n) ≡ Some n
numeral-decimal n h = let d = decimal_is_IsNumeral n h in λ j. cond (is_numeral-decimal n h j) (Some (d.1 j)) None
