use Rattle.std.proofs.Common.{◌≡◌, drop}
use Rattle.tailrec_lang.specs.inner.Tree.{arm_trees}
use Rattle.smt_export.specs.Reach.{arms_call}
use Rattle.smt_export.proofs.reach.+calls.Given as goal

abbrev pub invariant-arms_call-loop-arm : goal.invariant-arms_call-loop-arm
invariant-arms_call-loop-arm l = arms_call (arm_trees (drop l.arm-index l.arms)) l.def ≡ arms_call (arm_trees l.arms) l.def
