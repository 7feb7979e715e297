use Rattle.std.proofs.Common.{◌≡◌, ℕ, ◌-◌, ◌<◌, true, false, get_or}
use Rattle.tailrec_lang.specs.Tree.{group_tree}
use Rattle.smt_export.specs.Reach.{Calls}
use Rattle.smt_export.proofs.reach.is_called.Given as goal

abbrev pub invariant-loop-i : goal.invariant-loop-i
invariant-loop-i l = (k : ℕ) → k < l.i → get_or l.marks k false ≡ true → Calls (group_tree l.g) (l.def - k) l.callee → ⊥
