use Rattle.mc_text.specs.Printing.{page}
use Rattle.mc_text.proofs.Printed.{keeps_more, print_next_copied, print_over}
use Rattle.group_text.specs.Spelling.{number}
use Rattle.group_text.proofs.put.put_numbers.Goals as goal

pub loop-n-preserved : goal.loop-n-preserved
loop-n-preserved c = record {
  told = print_next_copied number c.args.numbers.now c.loop-n.n-index _ _ _ _ c.loop-n-test.true c.loop-n.invariant.told c.in_ok-put_number.ensures.ok;
  kept = keeps_more _ (page c.loop-n.pen) _ c.loop-n.invariant.kept c.put_number.ensures.kept;
}

pub returns-clause-ok : goal.returns-clause-ok
returns-clause-ok c = print_over number c.args.numbers.now c.loop-n.n-index _ _ c.loop-n-test.false c.loop-n.invariant.told
