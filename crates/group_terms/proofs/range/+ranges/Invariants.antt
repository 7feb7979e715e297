use Rattle.std.proofs.Common.{take}
use Rattle.tailrec_lang.specs.inner.Tree.{arm_trees}
use Rattle.group_terms.specs.Range.{ArmsInRange}
use Rattle.group_terms.proofs.range.+ranges.Given as goal

abbrev pub invariant-arms_have_range-loop-arm : goal.invariant-arms_have_range-loop-arm
invariant-arms_have_range-loop-arm l = ArmsInRange (arm_trees (take l.arm-index l.arms))
