use Rattle.std.proofs.Common.{◌≡◌, drop, flat_map}
use Rattle.mc_text.specs.Printing.{Keeps, page, print}
use Rattle.smt_terms.specs.Text.{tokens}
use Rattle.smt_terms.specs.Views.{expr}
use Rattle.smt_terms.proofs.print.+trees.Given as goal

abbrev pub invariant-put_trees-loop-item : goal.invariant-put_trees-loop-item
invariant-put_trees-loop-item l = record {
  told : print (flat_map (λ t. tokens (expr t)) l.items) (page l.fn.pen) ≡ print (flat_map (λ t. tokens (expr t)) (drop l.item-index l.items)) (page l.pen);
  kept : Keeps (page l.fn.pen) (page l.pen);
}
