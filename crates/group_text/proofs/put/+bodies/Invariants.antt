use Rattle.std.proofs.Common.{◌≡◌, drop, flat_map}
use Rattle.mc_text.specs.Printing.{Keeps, page, print}
use Rattle.group_text.proofs.Printing.{arm_lines}
use Rattle.group_text.proofs.put.+bodies.Given as goal

abbrev pub invariant-put_arms-loop-arm : goal.invariant-put_arms-loop-arm
invariant-put_arms-loop-arm l = record {
  told : print (flat_map arm_lines l.arms) (page l.fn.pen) ≡ print (flat_map arm_lines (drop l.arm-index l.arms)) (page l.pen);
  kept : Keeps (page l.fn.pen) (page l.pen);
}
