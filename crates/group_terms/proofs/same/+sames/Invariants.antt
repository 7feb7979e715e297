use Rattle.std.proofs.Common.{◌≡◌, take, map}
use Rattle.tailrec_lang.specs.Tree.{body_tree}
use Rattle.group_terms.proofs.same.+sames.Given as goal

abbrev pub invariant-same_arms-loop-i : goal.invariant-same_arms-loop-i
invariant-same_arms-loop-i l = map body_tree (take l.i l.a) ≡ map body_tree (take l.i l.b)
