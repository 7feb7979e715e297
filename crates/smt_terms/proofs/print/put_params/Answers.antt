use Rattle.std.proofs.Common.{sym, ap, ◌∙◌}
use Rattle.mc_text.specs.Printing.{page, print}
use Rattle.mc_text.proofs.Printed.{keeps_more, print_next, print_over}
use Rattle.smt_terms.specs.Text.{tokens, param_expr}
use Rattle.smt_terms.proofs.Printing.{each}
use Rattle.smt_terms.proofs.print.put_params.Goals as goal

pub loop-param-preserved : goal.loop-param-preserved
loop-param-preserved c = record {
  told = print_next (λ t. tokens (param_expr t)) c.args.params.now c.loop-param.param-index c.param-item.result _ _ _ c.loop-param-test.true c.param-item.is c.loop-param.invariant.told c.in_ok-put_param.ensures.ok;
  kept = keeps_more _ (page c.loop-param.pen) _ c.loop-param.invariant.kept c.put_param.ensures.kept;
}

pub returns-clause-ok : goal.returns-clause-ok
returns-clause-ok c =
    print_over (λ t. tokens (param_expr t)) c.args.params.now c.loop-param.param-index _ _ c.loop-param-test.false c.loop-param.invariant.told
    ∙ ap (λ ts. print ts (page c.args.pen.now)) (sym (each param_expr c.args.params.now))
