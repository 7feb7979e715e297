-- Tokens, and the one way to write them.
--
-- Between two tokens of a line stands one space, but none after ( and none before ) and the line's end, and no space
-- stands at the beginning of a line. At the beginning of a line the end of the text is a token of its own.
use Rattle.std.specs.Prelude.{◌≡◌, ◌≢◌, ℕ, ◌+◌, Bool, false, ◌&&◌, not, List, [], ◌∷◌, ◌++◌, codes, nat_le, ◌==◌}
use Rattle.std.specs.List.{AllPass}
use Rattle.mc_text.specs.declared.token.Token.{Token}
use Rattle.mc_text.specs.declared.token.Token.TheVariants as token
use Rattle.mc_text.specs.declared.token.Before.{Before}
use Rattle.mc_text.specs.declared.token.Before.TheVariants.{Start, Open, Later}

-- a token, wherever its bytes lie in memory; Stuck stands for a place where no token begins
pub data Tok : Type 0 where
  Left : Tok
  Right : Tok
  Semi : Tok
  Atom : List ℕ → Tok
  Eol : Tok
  Done : Tok
  Stuck : Tok

abbrev pub tok : Token → Tok
tok token.Left = Left
tok token.Right = Right
tok token.Semi = Semi
tok (token.Atom a) = Atom a.now
tok token.Eol = Eol
tok token.Done = Done

-- ---- the spelling

-- the bytes 0x21 to 0x7e, without ( ) ;
abbrev pub is_atom_byte : ℕ → Bool
is_atom_byte b = nat_le 33 b && nat_le b 126 && not (b == 40) && not (b == 41) && not (b == 59)

-- one byte or more
abbrev pub IsAtom : List ℕ → Type 0
IsAtom a = (a ≢ []) × AllPass is_atom_byte a

-- the byte that ends a line
abbrev pub newline : ℕ
newline = 10

-- the space before a token
abbrev pub gap : Before → Tok → List ℕ
gap Later Left = codes " "
gap Later Semi = codes " "
gap Later (Atom a) = codes " "
gap _ _ = []

abbrev pub token_bytes : Tok → List ℕ
token_bytes Left = codes "("
token_bytes Right = codes ")"
token_bytes Semi = codes ";"
token_bytes (Atom a) = a
token_bytes Eol = newline ∷ []
token_bytes _ = []

-- what stands before the place after a token
abbrev pub before_next : Tok → Before
before_next Left = Open
before_next Eol = Start
before_next Done = Start
before_next _ = Later

abbrev pub token_text : Before → Tok → List ℕ
token_text m t = gap m t ++ token_bytes t

-- the text of tokens that follow a place
abbrev pub spell : Before → List Tok → List ℕ
spell m [] = []
spell m (t ∷ ts) = token_text m t ++ spell (before_next t) ts

-- a token of a text, other than its end
abbrev pub IsToken : Tok → Type 0
IsToken (Atom a) = IsAtom a
IsToken Done = ⊥
IsToken Stuck = ⊥
IsToken _ = Unit {0}

-- ---- the token at a place

abbrev pub HasNoAtomByte : List ℕ → Type 0
HasNoAtomByte [] = Unit {0}
HasNoAtomByte (b ∷ bs) = is_atom_byte b ≡ false

-- an atom goes on as far as it can; the end of the text is a token at the beginning of a line
abbrev pub MayStand : Before → Tok → List ℕ → Type 0
MayStand m (Atom a) rest = IsAtom a × HasNoAtomByte rest
MayStand m Done rest = (m ≡ Start) × (rest ≡ [])
MayStand m t rest = IsToken t

-- after m, the bytes begin with this token, and with the space before it
pub record Stands (m : Before) (bytes : List ℕ) (t : Tok) (rest : List ℕ) : Type 0 where
  pub spelled : bytes ≡ token_text m t ++ rest
  pub may : MayStand m t rest

-- a place of a text
pub record Position : Type 0 where
  pub before : Before
  pub rest : List ℕ
  pub line : ℕ

-- how many lines end with the token
abbrev pub eol : Tok → ℕ
eol Eol = 1
eol _ = 0

-- a token stands at the one place, and the other is the place after it
pub record Passes (t : Tok) (old new : Position) : Type 0 where
  pub stands : Stands old.before old.rest t new.rest
  pub before : new.before ≡ before_next t
  pub line : new.line ≡ old.line + eol t
