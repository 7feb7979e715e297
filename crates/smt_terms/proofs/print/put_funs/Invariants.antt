use Rattle.std.proofs.Common.{◌≡◌, drop, flat_map}
use Rattle.mc_text.specs.Printing.{Keeps, page, print}
use Rattle.smt_terms.specs.Text.{fun_tokens}
use Rattle.smt_terms.specs.Views.{fun_tree}
use Rattle.smt_terms.proofs.print.put_funs.Given as goal

abbrev pub invariant-loop-fun : goal.invariant-loop-fun
invariant-loop-fun l = record {
  told : print (flat_map (λ t. fun_tokens (fun_tree t)) l.funs) (page l.fn.pen) ≡ print (flat_map (λ t. fun_tokens (fun_tree t)) (drop l.fun-index l.funs)) (page l.pen);
  kept : Keeps (page l.fn.pen) (page l.pen);
}
