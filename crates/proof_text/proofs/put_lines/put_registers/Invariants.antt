use Rattle.std.proofs.Common.{◌≡◌, drop, flat_map}
use Rattle.mc_text.specs.Printing.{Keeps, page, print}
use Rattle.sep_assert.specs.Tree.{register_tree}
use Rattle.proof_text.specs.LineSpelling.{register_tokens}
use Rattle.proof_text.proofs.put_lines.put_registers.Given as goal

abbrev pub invariant-loop-register : goal.invariant-loop-register
invariant-loop-register l = record {
  told : print (flat_map (λ t. register_tokens (register_tree t)) l.registers) (page l.fn.pen) ≡ print (flat_map (λ t. register_tokens (register_tree t)) (drop l.register-index l.registers)) (page l.pen);
  kept : Keeps (page l.fn.pen) (page l.pen);
}
