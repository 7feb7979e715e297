use Rattle.std.proofs.Common.{◌++◌, drop, map}
use Rattle.tailrec_lang.specs.Tree.{arms_of, body_tree}
use Rattle.tailrec_lang.specs.inner.Tree.{arm_trees}
use Rattle.fun_laws.specs.Rewriting.{arm_term_count}
use Rattle.fun_laws.specs.inner.Simplified.{ArePassed, AreSimpleArms, arm_parts}
use Rattle.fun_laws.proofs.simplification.+simplifying.Given as goal

abbrev pub invariant-simple_arms-loop-arm : goal.invariant-simple_arms-loop-arm
invariant-simple_arms-loop-arm l =
    ArePassed arm_parts (arm_term_count (arm_trees l.made)) l.fn.log l.log (arm_trees l.arms) (arms_of (map body_tree l.made ++ map body_tree (drop l.arm-index l.arms)))
    × AreSimpleArms (arm_trees l.made)
