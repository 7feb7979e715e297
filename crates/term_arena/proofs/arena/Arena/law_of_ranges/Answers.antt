use Rattle.std.proofs.Common.{◌≡◌, ℕ, List, Some, subst}
use Rattle.term_arena.specs.declared.node.Node.{Node}
use Rattle.term_arena.specs.Arena.{Tree, TreeInRange, tree_of}
use Rattle.term_arena.proofs.arena.Arena.law_of_ranges.Goals as goal

pub returns : goal.returns
returns c =
    subst (λ (ns : List Node). (k : ℕ) (t : Tree) → tree_of ns k ≡ Some t → TreeInRange t) c.self.view_is c.self.invariant.measured.ranges
