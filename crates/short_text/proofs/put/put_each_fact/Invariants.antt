use Rattle.std.proofs.Common.{◌≡◌, drop, flat_map}
use Rattle.mc_text.specs.Printing.{Keeps, page, print}
use Rattle.short_text.specs.ShortSpelling.{held_fact_tokens}
use Rattle.short_text.proofs.put.put_each_fact.Given as goal

abbrev pub invariant-loop-fact : goal.invariant-loop-fact
invariant-loop-fact l = record {
  told : print (flat_map held_fact_tokens l.facts) (page l.fn.pen) ≡ print (flat_map held_fact_tokens (drop l.fact-index l.facts)) (page l.pen);
  kept : Keeps (page l.fn.pen) (page l.pen);
}
