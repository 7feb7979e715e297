-- Symbols of SMT-LIB 2.6: the simple ones of its section 3.1.
use Rattle.std.specs.Prelude.{◌≡◌, ℕ, ◌==◌, Bool, true, false, not, ◌&&◌, ◌||◌, List, [], ◌∷◌, codes}
use Rattle.std.specs.Char.{is_digit, is_ascii_alphabetic}
use Rattle.std.specs.List.{list_any, list_all}
use Rattle.std.specs.Str.{bytes_eq}

-- the words of the language and the names of its commands: none is a symbol
abbrev pub reserved_words : List (List ℕ)
reserved_words =
    codes "BINARY" ∷ codes "DECIMAL" ∷ codes "HEXADECIMAL" ∷ codes "NUMERAL" ∷ codes "STRING" ∷ codes "_" ∷ codes "!" ∷ codes "as" ∷ codes "let" ∷ codes "exists"
    ∷ codes "forall" ∷ codes "match" ∷ codes "par" ∷ codes "assert" ∷ codes "check-sat" ∷ codes "check-sat-assuming" ∷ codes "declare-const" ∷ codes "declare-datatype"
    ∷ codes "declare-datatypes" ∷ codes "declare-fun" ∷ codes "declare-sort" ∷ codes "define-fun" ∷ codes "define-fun-rec" ∷ codes "define-funs-rec" ∷ codes "define-sort"
    ∷ codes "echo" ∷ codes "exit" ∷ codes "get-assertions" ∷ codes "get-assignment" ∷ codes "get-info" ∷ codes "get-model" ∷ codes "get-option" ∷ codes "get-proof"
    ∷ codes "get-unsat-assumptions" ∷ codes "get-unsat-core" ∷ codes "get-value" ∷ codes "pop" ∷ codes "push" ∷ codes "reset" ∷ codes "reset-assertions" ∷ codes "set-info"
    ∷ codes "set-logic" ∷ codes "set-option" ∷ []

abbrev pub is_symbol_character : ℕ → Bool
is_symbol_character c = is_digit c 10 || is_ascii_alphabetic c || list_any (λ (d : ℕ). c == d) (codes "~!@$%^&*_-+=<>.?/")

-- one such character or more, the first of which is no digit, and no reserved word
abbrev pub is_symbol : List ℕ → Bool
is_symbol [] = false
is_symbol (c ∷ cs) = not (is_digit c 10) && list_all is_symbol_character (c ∷ cs) && not (list_any (bytes_eq (c ∷ cs)) reserved_words)

abbrev pub IsSymbol : List ℕ → Type 0
IsSymbol name = is_symbol name ≡ true
