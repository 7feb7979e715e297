use Rattle.std.proofs.Common.{◌≡◌, drop, flat_map}
use Rattle.mc_text.specs.Printing.{Keeps, page, print}
use Rattle.short_text.specs.ShortSpelling.{term_number}
use Rattle.short_text.proofs.put.put_term_numbers.Given as goal

abbrev pub invariant-loop-k : goal.invariant-loop-k
invariant-loop-k l = record {
  told : print (flat_map term_number l.numbers) (page l.fn.pen) ≡ print (flat_map term_number (drop l.k-index l.numbers)) (page l.pen);
  kept : Keeps (page l.fn.pen) (page l.pen);
}
