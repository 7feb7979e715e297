-- The registers that a group or an assertion names: x1 to x31, rising, so none of them twice.
use Rattle.std.specs.Prelude.{ℕ, ◌+◌, ◌≤◌, List, [], ◌∷◌}

abbrev pub last_register : ℕ
last_register = 31

-- registers from `least` on, rising
abbrev pub AreRegistersFrom : ℕ → List ℕ → Type 0
AreRegistersFrom least [] = Unit {0}
AreRegistersFrom least (r ∷ rs) = (least ≤ r) × (r ≤ last_register) × AreRegistersFrom (r + 1) rs
