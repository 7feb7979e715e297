-- The scanner's states on its way through a token.
use Rattle.std.specs.Prelude.{◌≡◌, ℕ, Bool, true, false, List, [], ◌∷◌, codes, Option, Some, None}
use Rattle.mc_text.specs.declared.token.Token.{Token}
use Rattle.mc_text.specs.declared.token.Before.{Before}
use Rattle.mc_text.specs.declared.token.Class.TheVariants.{Space}
use Rattle.mc_text.specs.Tokens.{Tok, Atom, Done, Stuck, tok, before_next, HasNoAtomByte}
use Rattle.mc_text.specs.Scanning.{At, Spaced, State, at_end, class_of, lex, parts}

-- ---- what the code gives

abbrev pub state_of : Before → Bool → State
state_of m true = Spaced
state_of m false = At m

-- a token other than the end, and the bytes after it, are what the tokens begin with
abbrev pub Found : {S : Type 0} → (S → List ℕ) → Option (Token × S) → List Tok → Type 0
Found now None ts = ts ≡ Stuck ∷ []
Found now (Some p) ts = (ts ≡ tok p.0 ∷ lex (now p.1) (At (before_next (tok p.0)))) × (tok p.0 ≡ Done → ⊥)

-- an atom goes on as far as it can
abbrev pub IsWhole : Tok → List ℕ → Type 0
IsWhole (Atom a) rest = HasNoAtomByte rest
IsWhole _ rest = Unit {0}

abbrev pub space_text : Bool → List ℕ
space_text true = codes " "
space_text false = []

-- the text doesn't end here, or doesn't end well
abbrev pub IsInside : List ℕ → State → Type 0
IsInside [] s = at_end s ≡ Stuck ∷ []
IsInside (b ∷ bs) s = Unit {0}

-- no space between two tokens stands here
abbrev pub IsSettled : List ℕ → State → Type 0
IsSettled [] s = at_end s ≡ Stuck ∷ []
IsSettled (b ∷ bs) s = class_of b ≡ Space → parts s ≡ false
