use Rattle.std.proofs.Common.{◌≡◌, drop, flat_map}
use Rattle.mc_text.specs.Printing.{Keeps, page, print}
use Rattle.group_text.specs.TermSpelling.{range_tokens}
use Rattle.group_text.proofs.put.put_ranges.Given as goal

abbrev pub invariant-loop-range : goal.invariant-loop-range
invariant-loop-range l = record {
  told : print (flat_map range_tokens l.ranges) (page l.fn.pen) ≡ print (flat_map range_tokens (drop l.range-index l.ranges)) (page l.pen);
  kept : Keeps (page l.fn.pen) (page l.pen);
}
