use Rattle.std.proofs.Common.{ℕ, drop, ◌↔◌}
use Rattle.tailrec_lang.specs.Tree.{group_tree}
use Rattle.tailrec_lang.specs.inner.Tree.{arm_trees}
use Rattle.tailrec_lang.specs.WellFormed.{ArmsAreWellFormed}
use Rattle.tailrec_lang.specs.inner.WellFormed.{Counts}
use Rattle.tailrec_lang.proofs.scope.+bodies.Given as goal

abbrev pub invariant-are_arms_well_formed-loop-i : goal.invariant-are_arms_well_formed-loop-i
invariant-are_arms_well_formed-loop-i l = (w m : ℕ) → Counts l.scope w m
    → (ArmsAreWellFormed (group_tree l.g) l.d l.exits (arm_trees l.arms) w m ↔ ArmsAreWellFormed (group_tree l.g) l.d (drop l.i l.exits) (arm_trees (drop l.i l.arms)) w m)
