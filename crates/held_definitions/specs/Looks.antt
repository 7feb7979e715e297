-- Steps of looking whether terms are different leaves: where some weren't the right ones, the look ended there.
use Rattle.std.specs.Prelude.{ℕ, ◌+◌, ◌*◌, ◌≤◌, Bool, IsTrue, List, length}
use Rattle.term_arena.specs.Arena.{Tree}

-- at most one step for each different term of so many lists, in each list of terms that P asks for, and one more where the answer is no
pub record Looks (n : ℕ) (P : List Tree → Type 0) (answer : Bool) (s t : ℕ) : Type 0 where
  pub some : (ts : List Tree) → P ts → t ≤ s + n * length ts + 1
  pub whole : IsTrue answer → (ts : List Tree) → P ts → t ≤ s + n * length ts
