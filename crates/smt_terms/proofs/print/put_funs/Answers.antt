use Rattle.mc_text.specs.Printing.{page}
use Rattle.mc_text.proofs.Printed.{keeps_more, print_next, print_over_map}
use Rattle.smt_terms.specs.Text.{fun_tokens}
use Rattle.smt_terms.specs.Views.{fun_tree}
use Rattle.smt_terms.proofs.print.put_funs.Goals as goal

pub loop-fun-preserved : goal.loop-fun-preserved
loop-fun-preserved c = record {
  told = print_next (λ t. fun_tokens (fun_tree t)) c.args.funs.now c.loop-fun.fun-index c.fun-item.result _ _ _ c.loop-fun-test.true c.fun-item.is c.loop-fun.invariant.told c.in_ok-put_fun.ensures.ok;
  kept = keeps_more _ (page c.loop-fun.pen) _ c.loop-fun.invariant.kept c.put_fun.ensures.kept;
}

pub returns-clause-ok : goal.returns-clause-ok
returns-clause-ok c = print_over_map fun_tokens fun_tree c.args.funs.now c.loop-fun.fun-index _ _ c.loop-fun-test.false c.loop-fun.invariant.told
