-- Lines that keep no theorem.
use Rattle.std.specs.Prelude.{◌≡◌, ℕ, None}
use Rattle.verdicts.specs.Instance.{History}

-- no theorem is kept: each that was stated was forgotten
abbrev pub KeepsNone : History → Type 0
KeepsNone h = (k : ℕ) → h.theorem k ≡ None
