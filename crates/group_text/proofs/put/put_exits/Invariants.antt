use Rattle.std.proofs.Common.{◌≡◌, drop, flat_map}
use Rattle.mc_text.specs.Printing.{Keeps, page, print}
use Rattle.group_text.specs.Spelling.{exit_tokens}
use Rattle.group_text.proofs.put.put_exits.Given as goal

abbrev pub invariant-loop-exit : goal.invariant-loop-exit
invariant-loop-exit l = record {
  told : print (flat_map exit_tokens l.exits) (page l.fn.pen) ≡ print (flat_map exit_tokens (drop l.exit-index l.exits)) (page l.pen);
  kept : Keeps (page l.fn.pen) (page l.pen);
}
