use Rattle.std.proofs.Common.{◌≡◌, drop}
use Rattle.tailrec_lang.specs.inner.Tree.{arm_trees}
use Rattle.smt_export.specs.Reach.{arms_enter}
use Rattle.smt_export.proofs.reach.+enters.Given as goal

abbrev pub invariant-arms_enter-loop-arm : goal.invariant-arms_enter-loop-arm
invariant-arms_enter-loop-arm l = arms_enter (arm_trees (drop l.arm-index l.arms)) ≡ arms_enter (arm_trees l.arms)
