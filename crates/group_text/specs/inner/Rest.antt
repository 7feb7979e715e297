-- What follows the groups of a text.
use Rattle.std.specs.Prelude.{◌≡◌, ◌⊎◌, ℕ, Bool, true, false, List, [], ◌∷◌}
use Rattle.mc_text.specs.Tokens.{Tok, Done}
use Rattle.mc_text.specs.Reading.{goes_on}

abbrev pub is_done : Tok → Bool
is_done Done = true
is_done _ = false

-- something follows: a token, or bytes that are no line
abbrev pub GoesOn : List Tok → List ℕ → Type 0
GoesOn ts tail = (goes_on is_done ts ≡ false) ⊎ ((ts ≡ Done ∷ []) × (tail ≡ [] → ⊥))
