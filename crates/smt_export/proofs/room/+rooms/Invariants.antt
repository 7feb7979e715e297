use Rattle.std.proofs.Common.{◌≡◌, ◌+◌, drop}
use Rattle.tailrec_lang.specs.Tree.{group_tree}
use Rattle.tailrec_lang.specs.inner.Tree.{arm_trees}
use Rattle.smt_export.specs.inner.Following.{arm_room}
use Rattle.smt_export.proofs.room.+rooms.Given as goal

abbrev pub invariant-arms_room-loop-arm : goal.invariant-arms_room-loop-arm
invariant-arms_room-loop-arm l = l.count + arm_room (group_tree l.g) (arm_trees (drop l.arm-index l.arms)) ≡ arm_room (group_tree l.g) (arm_trees l.arms)
