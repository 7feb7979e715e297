use Rattle.std.proofs.Common.{◌≡◌, take, map}
use Rattle.tailrec_lang.specs.Tree.{step_tree}
use Rattle.group_terms.proofs.same.same_steps.Given as goal

abbrev pub invariant-loop-i : goal.invariant-loop-i
invariant-loop-i l = map step_tree (take l.i l.a) ≡ map step_tree (take l.i l.b)
