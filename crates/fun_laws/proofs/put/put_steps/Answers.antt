use Rattle.mc_text.specs.Printing.{page}
use Rattle.mc_text.proofs.Printed.{keeps_more, print_next, print_over}
use Rattle.fun_laws.specs.Spelling.{cert_step_tokens}
use Rattle.fun_laws.proofs.put.put_steps.Goals as goal

pub loop-step-preserved : goal.loop-step-preserved
loop-step-preserved c = record {
  told = print_next cert_step_tokens c.args.steps.now c.loop-step.step-index c.step-item.result _ _ _ c.loop-step-test.true c.step-item.is c.loop-step.invariant.told c.in_ok-put_step.ensures.ok;
  kept = keeps_more _ (page c.loop-step.pen) _ c.loop-step.invariant.kept c.put_step.ensures.kept;
}

pub returns-clause-ok : goal.returns-clause-ok
returns-clause-ok c = print_over cert_step_tokens c.args.steps.now c.loop-step.step-index _ _ c.loop-step-test.false c.loop-step.invariant.told
