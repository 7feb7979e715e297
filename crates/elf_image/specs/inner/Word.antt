-- What the reading of a word says of its four bytes.
use Rattle.std.specs.Prelude.{ℕ, ◌+◌, ◌*◌, Option, Some, None}

-- the number of four bytes, the low one first, if all are there
abbrev pub word_of : Option ℕ → Option ℕ → Option ℕ → Option ℕ → Option ℕ
word_of (Some b0) (Some b1) (Some b2) (Some b3) = Some (b0 + 256 * (b1 + 256 * (b2 + 256 * b3)))
word_of b0 b1 b2 b3 = None
