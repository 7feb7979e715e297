-- Theorems over the numbers of an arena, each by its own number.
use Rattle.std.specs.Prelude.{ℕ, List, Option, option_map, IfSome}
use Rattle.std.specs.Ordering.{nat_cmp}
use Rattle.std.specs.BTreeMap.{is_at}
use Rattle.std.specs.Map.{lookup}
use Rattle.triple_kernel.specs.Tree.{TripleTree}
use Rattle.term_arena.specs.declared.node.Node.{Node}
use Rattle.held_terms.specs.declared.held.Held.{Held}
use Rattle.held_terms.specs.Held.{triple_of, IsHeldAt}

-- the theorems that can be cited, each beside its number
abbrev pub Theorems : Type 0
Theorems = List (ℕ × Held)

-- the theorem of that number, if it was made and not forgotten
abbrev pub held_by_number : Theorems → ℕ → Option Held
held_by_number held k = lookup (is_at (nat_cmp k)) held

-- .. as the triple that its numbers stand for
abbrev pub theorem_at : List Node → Theorems → ℕ → Option TripleTree
theorem_at ns held k = option_map (triple_of ns) (held_by_number held k)

-- each number of the theorems is one of the arena, of the kind of its place
abbrev pub AreHeldAt : List Node → Theorems → Type 0
AreHeldAt ns held = (k : ℕ) → IfSome (held_by_number held k) (λ h. IsHeldAt ns h)
