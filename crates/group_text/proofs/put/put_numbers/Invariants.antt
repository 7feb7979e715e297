use Rattle.std.proofs.Common.{◌≡◌, drop, flat_map}
use Rattle.mc_text.specs.Printing.{Keeps, page, print}
use Rattle.group_text.specs.Spelling.{number}
use Rattle.group_text.proofs.put.put_numbers.Given as goal

abbrev pub invariant-loop-n : goal.invariant-loop-n
invariant-loop-n l = record {
  told : print (flat_map number l.numbers) (page l.fn.pen) ≡ print (flat_map number (drop l.n-index l.numbers)) (page l.pen);
  kept : Keeps (page l.fn.pen) (page l.pen);
}
