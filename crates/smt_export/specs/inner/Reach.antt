-- Marks of the definitions that are reached.
use Rattle.std.specs.Prelude.{◌≡◌, ℕ, ◌-◌, ◌<◌, ◌↔◌, ◌&&◌, nat_le, Bool, true, false, List, get_or, length}
use Rattle.tailrec_lang.specs.Tree.{GroupTree}
use Rattle.smt_export.specs.Reach.{Calls, ReachesByCalls}

-- the marks of the definitions from def down
abbrev pub AreMarks : GroupTree → ℕ → List Bool → Type 0
AreMarks g def marks = (i : ℕ) → i < length marks → (get_or marks i false ≡ true) ↔ ReachesByCalls g def (def - i)

abbrev pub is_marked : ℕ → List Bool → ℕ → Bool
is_marked def marks e = nat_le e def && get_or marks (def - e) false

-- one of the marked definitions calls that one
abbrev pub IsCalled : GroupTree → ℕ → List Bool → ℕ → Type 0
IsCalled g def marks callee = (i : ℕ) × (i < length marks) × (get_or marks i false ≡ true) × Calls g (def - i) callee
