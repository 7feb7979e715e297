-- Names and bytes as a list of pairs. Of two pairs with one name the first counts.
use Rattle.std.specs.Prelude.{ℕ, List, [], ◌∷◌, ◌++◌, Option, Some, None, if◌then◌else◌}
use Rattle.std.specs.Str.{bytes_eq}

abbrev pub Files : Type 0
Files = List (List ℕ × List ℕ)

-- what the name holds, or that it is missing
abbrev pub held : Files → List ℕ → Option (List ℕ)
held [] name = None
held (f ∷ fs) name = if bytes_eq f.0 name then Some f.1 else held fs name

-- the files after the name was given these bytes: in its place, or at the end
abbrev pub with_file : Files → List ℕ → List ℕ → Files
with_file [] name bytes = (name, bytes) ∷ []
with_file (f ∷ fs) name bytes = if bytes_eq f.0 name then (f.0, bytes) ∷ fs else f ∷ with_file fs name bytes

-- the files after the piece was added to what the name holds; where it is missing, nothing is
abbrev pub with_more : Files → List ℕ → List ℕ → Files
with_more [] name piece = []
with_more (f ∷ fs) name piece = if bytes_eq f.0 name then (f.0, f.1 ++ piece) ∷ fs else f ∷ with_more fs name piece
