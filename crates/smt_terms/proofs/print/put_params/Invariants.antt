use Rattle.std.proofs.Common.{◌≡◌, drop, flat_map}
use Rattle.mc_text.specs.Printing.{Keeps, page, print}
use Rattle.smt_terms.specs.Text.{tokens, param_expr}
use Rattle.smt_terms.proofs.print.put_params.Given as goal

abbrev pub invariant-loop-param : goal.invariant-loop-param
invariant-loop-param l = record {
  told : print (flat_map (λ t. tokens (param_expr t)) l.params) (page l.fn.pen) ≡ print (flat_map (λ t. tokens (param_expr t)) (drop l.param-index l.params)) (page l.pen);
  kept : Keeps (page l.fn.pen) (page l.pen);
}
