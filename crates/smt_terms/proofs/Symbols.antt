-- Names of letters and numbers are symbols.
use Rattle.std.proofs.Common.{◌≡◌, ℕ, ◌<◌, ◌^◌, Bool, true, false, List, [], ◌∷◌, ◌++◌, length, eqb, codes, refl, subst, sym, ◌∙◌, arith}
use Rattle.std.specs.Prelude.{◌==◌, ◌&&◌, ◌||◌}
use Rattle.std.specs.Char.{digit_value, is_ascii_alphabetic}
use Rattle.std.specs.Fmt.{decimal}
use Rattle.std.specs.List.{list_any, list_all}
use Rattle.std.specs.Str.{bytes_eq}
use Rattle.std.specs.Str.Parse.{AllDigits}
use Rattle.std.proofs.lemmas.Bool.{lt-ltb, eqb-true}
use Rattle.std.proofs.lemmas.Fmt.{decimal_is_IsNumeral}
use Rattle.std.proofs.lemmas.List.{append-nil}
use Rattle.smt_terms.specs.Symbols.{is_symbol_character}

abbrev pub are_characters : List ℕ → Bool
are_characters cs = list_all is_symbol_character cs

digits-characters : (ds more : List ℕ) → AllDigits 10 ds → are_characters more ≡ true → are_characters (ds ++ more) ≡ true
digits-characters [] more h l = l
digits-characters (c ∷ cs) more h l =
    λ j. (lt-ltb (digit_value c) 10 h.0 j || is_ascii_alphabetic c || list_any (λ (d : ℕ). c == d) (codes "~!@$%^&*_-+=<>.?/")) && digits-characters cs more h.1 l j

-- a decimal before more characters, and alone
pub decimal_characters : (n : ℕ) (more : List ℕ) → n < 2 ^ 64 → are_characters more ≡ true → are_characters (decimal n ++ more) ≡ true
decimal_characters n more h l = digits-characters (decimal n) more (decimal_is_IsNumeral n h).0.1 l

pub decimal_alone : (n : ℕ) → n < 2 ^ 64 → are_characters (decimal n) ≡ true
decimal_alone n h = (λ j. are_characters (sym (append-nil (decimal n)) j)) ∙ decimal_characters n [] h refl

-- digits don't begin with that letter
pub digit_differs : (ds more : List ℕ) (letter : ℕ) (letters : List ℕ) → 0 < length ds → AllDigits 10 ds → (digit_value letter < 10 → ⊥) → bytes_eq (ds ++ more) (letter ∷ letters) ≡ false
digit_differs [] more letter letters some h none = absurd (omega (arith, some))
digit_differs (c ∷ cs) more letter letters some h none = by (eqb c letter) refl
  where
    by : (b : Bool) → eqb c letter ≡ b → (b && bytes_eq (cs ++ more) letters) ≡ false
    by true e = absurd (none (subst (λ (k : ℕ). digit_value k < 10) (eqb-true c letter e) h.0))
    by false e = refl
