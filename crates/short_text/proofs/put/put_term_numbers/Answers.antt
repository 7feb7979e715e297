use Rattle.mc_text.specs.Printing.{page}
use Rattle.mc_text.proofs.Printed.{keeps_more, print_next_copied, print_over}
use Rattle.short_text.specs.ShortSpelling.{term_number}
use Rattle.short_text.proofs.put.put_term_numbers.Goals as goal

pub loop-k-preserved : goal.loop-k-preserved
loop-k-preserved c = record {
  told = print_next_copied term_number c.args.numbers.now c.loop-k.k-index _ _ _ _ c.loop-k-test.true c.loop-k.invariant.told c.in_ok-put_term_number.ensures.ok;
  kept = keeps_more _ (page c.loop-k.pen) _ c.loop-k.invariant.kept c.put_term_number.ensures.kept;
}

pub returns-clause-ok : goal.returns-clause-ok
returns-clause-ok c = print_over term_number c.args.numbers.now c.loop-k.k-index _ _ c.loop-k-test.false c.loop-k.invariant.told
