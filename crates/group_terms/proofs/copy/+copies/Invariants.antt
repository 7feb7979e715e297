use Rattle.std.proofs.Common.{◌≡◌, take, map}
use Rattle.tailrec_lang.specs.Tree.{body_tree}
use Rattle.group_terms.proofs.copy.+copies.Given as goal

abbrev pub invariant-copy_arms-loop-arm : goal.invariant-copy_arms-loop-arm
invariant-copy_arms-loop-arm l = map body_tree l.copies ≡ map body_tree (take l.arm-index l.arms)
