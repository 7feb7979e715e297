use Rattle.mc_text.specs.Printing.{page}
use Rattle.mc_text.proofs.Printed.{keeps_more, print_next_copied, print_over}
use Rattle.group_text.specs.Spelling.{exit_tokens}
use Rattle.group_text.proofs.put.put_exits.Goals as goal

pub loop-exit-preserved : goal.loop-exit-preserved
loop-exit-preserved c = record {
  told = print_next_copied exit_tokens c.args.exits.now c.loop-exit.exit-index _ _ _ _ c.loop-exit-test.true c.loop-exit.invariant.told c.in_ok-put_exit.ensures.ok;
  kept = keeps_more _ (page c.loop-exit.pen) _ c.loop-exit.invariant.kept c.put_exit.ensures.kept;
}

pub returns-clause-ok : goal.returns-clause-ok
returns-clause-ok c = print_over exit_tokens c.args.exits.now c.loop-exit.exit-index _ _ c.loop-exit-test.false c.loop-exit.invariant.told
