use Rattle.std.proofs.Common.{◌≡◌, drop, flat_map}
use Rattle.mc_text.specs.Printing.{Keeps, page, print}
use Rattle.group_text.specs.Spelling.{number}
use Rattle.proof_text.proofs.put_lines.put_theorems.Given as goal

abbrev pub invariant-loop-k : goal.invariant-loop-k
invariant-loop-k l = record {
  told : print (flat_map number l.theorems) (page l.fn.pen) ≡ print (flat_map number (drop l.k-index l.theorems)) (page l.pen);
  kept : Keeps (page l.fn.pen) (page l.pen);
}
