use Rattle.std.proofs.Common.{◌≡◌, drop, flat_map}
use Rattle.mc_text.specs.Printing.{Keeps, page, print}
use Rattle.short_text.specs.ShortSpelling.{held_register_tokens}
use Rattle.short_text.proofs.put.put_held_registers.Given as goal

abbrev pub invariant-loop-register : goal.invariant-loop-register
invariant-loop-register l = record {
  told : print (flat_map held_register_tokens l.registers) (page l.fn.pen) ≡ print (flat_map held_register_tokens (drop l.register-index l.registers)) (page l.pen);
  kept : Keeps (page l.fn.pen) (page l.pen);
}
