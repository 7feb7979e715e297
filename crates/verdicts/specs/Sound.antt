-- What is kept of the theorems and of the closed definitions of a proof.
use Rattle.std.specs.Prelude.{◌≡◌, ℕ, true, Option, Some}
use Rattle.tailrec_lang.specs.Tree.{GroupTree}
use Rattle.triple_kernel.specs.Tree.{TripleTree}
use Rattle.triple_kernel.specs.Valid.{Valid}
use Rattle.loop_rule.specs.Rule.{IsClosed}
use Rattle.verdicts.specs.Instance.{History}

-- each of the theorems is valid
abbrev pub AreValid : GroupTree → (ℕ → Option TripleTree) → Type 0
AreValid g theorem = (k : ℕ) (t : TripleTree) → theorem k ≡ Some t → Valid g t

-- each theorem is valid, and so is the triple of each exit of a closed definition
pub record Sound (g : GroupTree) (h : History) : Type 0 where
  pub theorems : AreValid g h.theorem
  pub closed : (d : ℕ) → h.closed d ≡ true → IsClosed g d
