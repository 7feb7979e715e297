use Rattle.std.proofs.Common.{ℕ, ◌<◌}
use Rattle.tailrec_lang.specs.Tree.{group_tree}
use Rattle.smt_export.specs.Reach.{EntersAgain, ReachesByCalls}
use Rattle.smt_export.proofs.reach.first_loop.Given as goal

abbrev pub invariant-loop-d : goal.invariant-loop-d
invariant-loop-d l = (e : ℕ) → e < l.d → ReachesByCalls (group_tree l.g) l.def e → EntersAgain (group_tree l.g) e → ⊥
