-- The tokens of a text from a place on, by computing.
use Rattle.std.specs.Prelude.{◌≡◌, ◌⊎◌, ℕ, ◌+◌, Bool, true, false, List, [], ◌∷◌, ◌==◌, if◌then◌else◌, Result, Ok, Err}
use Rattle.mc_text.specs.declared.token.BadText.{BadText}
use Rattle.mc_text.specs.declared.token.Token.{Token}
use Rattle.mc_text.specs.declared.token.Before.{Before}
use Rattle.mc_text.specs.declared.token.Before.TheVariants.{Start, Open, Later}
use Rattle.mc_text.specs.declared.token.Class.{Class}
use Rattle.mc_text.specs.declared.token.Class.TheVariants.{Letter, LeftMark, RightMark, SemiMark, Newline, Space, Other}
use Rattle.mc_text.specs.Tokens.{Tok, newline, Left, Right, Semi, Atom, Eol, Done, Stuck, tok, eol, is_atom_byte, Position}

abbrev pub class_of : ℕ → Class
class_of b =
    if is_atom_byte b then Letter else if b == 40 then LeftMark else if b == 41 then RightMark else if b == 59 then SemiMark
    else if b == newline then Newline else if b == 32 then Space else Other

-- at a place, after the space of one, or in an atom
pub data State : Type 0 where
  At : Before → State
  Spaced : State
  Within : State

-- a byte before the first token, which is an atom
abbrev pub prepend : ℕ → List Tok → List Tok
prepend b (Atom a ∷ ts) = Atom (b ∷ a) ∷ ts
prepend b _ = Stuck ∷ []

-- ( ; or an atom may begin
abbrev pub loose : State → Bool
loose (At Later) = false
loose Within = false
loose _ = true

-- ) or the end of the line may come
abbrev pub tight : State → Bool
tight Spaced = false
tight _ = true

-- an atom may begin or go on
abbrev pub grows : State → Bool
grows (At Later) = false
grows _ = true

-- a space may come
abbrev pub parts : State → Bool
parts (At Later) = true
parts Within = true
parts _ = false

-- an atom ends before a byte that is no part of it
abbrev pub ended : State → List Tok → List Tok
ended Within ts = Atom [] ∷ ts
ended _ ts = ts

abbrev pub or_stuck : Bool → List Tok → List Tok
or_stuck true ts = ts
or_stuck false ts = Stuck ∷ []

abbrev pub byte_step : Class → ℕ → State → (State → List Tok) → List Tok
byte_step Letter b s k = or_stuck (grows s) (prepend b (k Within))
byte_step LeftMark b s k = ended s (or_stuck (loose s) (Left ∷ k (At Open)))
byte_step RightMark b s k = ended s (or_stuck (tight s) (Right ∷ k (At Later)))
byte_step SemiMark b s k = ended s (or_stuck (loose s) (Semi ∷ k (At Later)))
byte_step Newline b s k = ended s (or_stuck (tight s) (Eol ∷ k (At Start)))
byte_step Space b s k = ended s (or_stuck (parts s) (k Spaced))
byte_step Other b s k = ended s (Stuck ∷ [])

abbrev pub at_end : State → List Tok
at_end (At Start) = Done ∷ []
at_end Within = Atom [] ∷ Stuck ∷ []
at_end _ = Stuck ∷ []

-- the tokens, up to the end of the text or to where no token begins
unfoldable pub lex : List ℕ → State → List Tok
lex [] s = at_end s
lex (b ∷ bs) s = byte_step (class_of b) b s (lex bs)

abbrev pub tokens_at : Position → List Tok
tokens_at p = lex p.rest (At p.before)

-- how many lines end in these tokens
abbrev pub eols : List Tok → ℕ
eols [] = 0
eols (t ∷ ts) = eol t + eols ts

-- a token and the tokens after it are what stood there; the end of the text stays where it is
abbrev pub ScansOne : Tok → Position → Position → Type 0
ScansOne t old new = ((t ≡ Done) × (tokens_at old ≡ Done ∷ []) × (new ≡ old)) ⊎ ((t ≡ Done → ⊥) × (tokens_at old ≡ t ∷ tokens_at new))

abbrev pub Scanned : Result Token BadText → Position → Position → Type 0
Scanned (Ok t) old new = ScansOne (tok t) old new
Scanned (Err e) old new = tokens_at old ≡ Stuck ∷ []
