-- What a bench over numbers keeps of the lines of a group's proof, and the history that it stands for.
use Rattle.std.specs.Prelude.{◌≡◌, ◌↔◌, ℕ, Bool, true, false, List, length, slice_get, unwrap_or, is_some, Contains}
use Rattle.std.specs.List.Sorted.{IsStrictlySortedBy}
use Rattle.std.specs.Ordering.{nat_cmp}
use Rattle.tailrec_lang.specs.declared.group.Group.{Group}
use Rattle.tailrec_lang.specs.Tree.{GroupTree, group_tree}
use Rattle.term_arena.specs.declared.node.Node.{Node}
use Rattle.verdicts.specs.Instance.{History}
use Rattle.held_definitions.specs.Theorems.{Theorems, theorem_at}

-- the group, the terms of the arena, the theorems over their numbers, the number of the next theorem, and which definitions are
-- closed
abbrev pub BenchState : Type 0
BenchState = Group × List Node × Theorems × ℕ × List Bool

abbrev pub state_group : BenchState → GroupTree
state_group k = group_tree k.0

abbrev pub state_nodes : BenchState → List Node
state_nodes k = k.1

abbrev pub is_closed_in : List Bool → ℕ → Bool
is_closed_in closed d = unwrap_or (slice_get closed d) false

-- what the lines left behind them, where the next theorem has that number
abbrev pub history_from : ℕ → List Node → Theorems → List Bool → History
history_from next ns held closed = record { next = next; theorem = theorem_at ns held; closed = is_closed_in closed }

abbrev pub state_history : BenchState → History
state_history k = history_from k.3 k.1 k.2 k.4

-- so many theorems can be cited: their numbers, in rising order
pub record CanCite (h : History) (count : ℕ) : Type 0 where
  pub numbers : List ℕ
  pub rise : IsStrictlySortedBy nat_cmp numbers
  pub each : (k : ℕ) → Contains numbers k ↔ (is_some (h.theorem k) ≡ true)
  pub many : length numbers ≡ count
