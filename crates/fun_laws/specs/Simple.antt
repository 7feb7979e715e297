-- Terms that no law rewrites.
use Rattle.std.specs.Prelude.{◌≡◌, ℕ, List, Some}
use Rattle.fun_laws.specs.Laws.{Law, law_at, Term}
use Rattle.fun_laws.specs.Places.{Rewrites}

-- no law matches, at any place
abbrev pub IsSimple : Term → Type 0
IsSimple t = (n : ℕ) (law : Law) → law_at n ≡ Some law → (place : List ℕ) (u : Term) → Rewrites law place t u → ⊥
