-- Which calls on a store in memory are to fail.
use Rattle.std.specs.Prelude.{ℕ, List, [], ◌∷◌, take, Option, Some, None, ◌==◌, if◌then◌else◌}

-- how many bytes the call keeps, where it is in the list of failures. Of two pairs with one number the first counts
abbrev pub kept_at : List (ℕ × ℕ) → ℕ → Option ℕ
kept_at [] call = None
kept_at (f ∷ fs) call = if f.0 == call then Some f.1 else kept_at fs call

-- what is kept of a piece: all of it, or of a call that fails its first bytes
abbrev pub kept_of : Option ℕ → List ℕ → List ℕ
kept_of None piece = piece
kept_of (Some kept) piece = take kept piece
