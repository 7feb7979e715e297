use Rattle.std.proofs.Common.{◌≡◌, drop, flat_map}
use Rattle.mc_text.specs.Printing.{Keeps, page, print}
use Rattle.short_text.specs.ShortSpelling.{mem_place_tokens}
use Rattle.short_text.proofs.put.put_mem_places.Given as goal

abbrev pub invariant-loop-place : goal.invariant-loop-place
invariant-loop-place l = record {
  told : print (flat_map mem_place_tokens l.places) (page l.fn.pen) ≡ print (flat_map mem_place_tokens (drop l.place-index l.places)) (page l.pen);
  kept : Keeps (page l.fn.pen) (page l.pen);
}
