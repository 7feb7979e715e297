-- The line at which a text leaves a grammar. A grammar is no more than a set of values and the text of each.
use Rattle.std.specs.Prelude.{◌≡◌, ℕ, zero, suc, List, [], ◌∷◌, ◌++◌, Option, Some, None, IsSomeAnd, option_map, ◌==◌, if◌then◌else◌}
use Rattle.mc_text.specs.Tokens.{newline}

-- the first n lines, if they are there; a line ends with its newline
unfoldable pub first_lines : ℕ → List ℕ → Option (List ℕ)
first_lines zero bytes = Some []
first_lines (suc n) [] = None
first_lines (suc n) (b ∷ bytes) = option_map (λ prefix. b ∷ prefix) (if b == newline then first_lines n bytes else first_lines (suc n) bytes)

-- how many lines end in these bytes
abbrev pub newlines : List ℕ → ℕ
newlines [] = 0
newlines (b ∷ bs) = if b == newline then suc (newlines bs) else newlines bs

-- which values it has, and the text of each
pub record Grammar (X : Type 0) : Type 1 where
  pub Has : X → Type 0
  pub text : X → List ℕ

abbrev pub InGrammar : {X : Type 0} → Grammar X → List ℕ → Type 0
InGrammar {X} g bytes = (x : X) × g.Has x × (bytes ≡ g.text x)

-- a prefix of one of its texts
abbrev pub Begins : {X : Type 0} → Grammar X → List ℕ → Type 0
Begins {X} g prefix = (x : X) × g.Has x × (more : List ℕ) × (g.text x ≡ prefix ++ more)

-- the first n lines are there, and begin one of its texts
abbrev pub LinesBegin : {X : Type 0} → Grammar X → List ℕ → ℕ → Type 0
LinesBegin g bytes n = IsSomeAnd (first_lines n bytes) (Begins g)

-- the bytes are none of its texts; the lines before line n are there and begin one, but not so with line n
abbrev pub IsBadAt : {X : Type 0} → Grammar X → List ℕ → ℕ → Type 0
IsBadAt g bytes zero = ⊥
IsBadAt g bytes (suc n) = (InGrammar g bytes → ⊥) × LinesBegin g bytes n × (LinesBegin g bytes (suc n) → ⊥)
