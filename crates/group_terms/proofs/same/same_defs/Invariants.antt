use Rattle.std.proofs.Common.{◌≡◌, take, map}
use Rattle.tailrec_lang.specs.Tree.{def_tree}
use Rattle.group_terms.proofs.same.same_defs.Given as goal

abbrev pub invariant-loop-i : goal.invariant-loop-i
invariant-loop-i l = map def_tree (take l.i l.a) ≡ map def_tree (take l.i l.b)
