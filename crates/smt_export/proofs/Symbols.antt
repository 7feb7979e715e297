-- The names of variables and of functions are symbols.
use Rattle.std.proofs.Common.{◌≡◌, ℕ, ◌<◌, ◌^◌, true, false, codes, refl, arith}
use Rattle.std.specs.Prelude.{not, ◌&&◌, ◌||◌}
use Rattle.std.specs.Fmt.{decimal}
use Rattle.std.proofs.lemmas.Fmt.{decimal_is_IsNumeral}
use Rattle.smt_terms.specs.Symbols.{IsSymbol}
use Rattle.smt_terms.proofs.Symbols.{are_characters, decimal_characters, decimal_alone, digit_differs}
use Rattle.smt_export.specs.declared.told.Told.{Told}
use Rattle.smt_export.specs.declared.told.Told.TheVariants.{Ok, ExitNumber, Pc, WordAt, MemAt, DomAt}
use Rattle.smt_export.specs.Told.{told_name, fun_name, word_name, mem_name, dom_name}
use Rattle.smt_export.proofs.Names.{IsSmall}

pub word_symbol : (n : ℕ) → n < 2 ^ 64 → IsSymbol (word_name n)
word_symbol n h = λ j. decimal_alone n h j && true

pub mem_symbol : (n : ℕ) → n < 2 ^ 64 → IsSymbol (mem_name n)
mem_symbol n h = λ j. decimal_alone n h j && true

pub dom_symbol : (n : ℕ) → n < 2 ^ 64 → IsSymbol (dom_name n)
dom_symbol n h = λ j. decimal_alone n h j && true

told_characters : (t : Told) → IsSmall t → are_characters (told_name t) ≡ true
told_characters Ok h = refl
told_characters ExitNumber h = refl
told_characters Pc h = refl
told_characters (WordAt i) h = decimal_alone i h
told_characters (MemAt i) h = decimal_alone i h
told_characters (DomAt i) h = decimal_alone i h

-- `forall` is the one reserved word that begins as they do
pub fun_symbol : (d : ℕ) (t : Told) → d < 2 ^ 64 → IsSmall t → IsSymbol (fun_name d t)
fun_symbol d t h l =
    let n = (decimal_is_IsNumeral d h).0 in
    let other = digit_differs (decimal d) (told_name t) 111 (codes "rall") n.0 n.1 (λ lt. omega (arith, lt)) in
    λ j. decimal_characters d (told_name t) h (told_characters t l) j && not (other j || false)
