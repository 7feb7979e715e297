-- Memories whose bytes are below a limit.
use Rattle.std.specs.Prelude.{◌≡◌, ℕ, ◌<◌, Some}
use Rattle.rv_words.specs.Bytes.{Bytes}

abbrev pub AreBytesBelow : ℕ → Bytes → Type 0
AreBytesBelow limit m = (a b : ℕ) → m a ≡ Some b → b < limit
