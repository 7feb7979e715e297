use Rattle.mc_text.specs.Printing.{page}
use Rattle.mc_text.proofs.Printed.{keeps_more, print_next, print_over}
use Rattle.group_text.specs.TermSpelling.{range_tokens}
use Rattle.group_text.proofs.put.put_ranges.Goals as goal

pub loop-range-preserved : goal.loop-range-preserved
loop-range-preserved c = record {
  told = print_next range_tokens c.args.ranges.now c.loop-range.range-index c.range-item.result _ _ _ c.loop-range-test.true c.range-item.is c.loop-range.invariant.told c.in_ok-put_range.ensures.ok;
  kept = keeps_more _ (page c.loop-range.pen) _ c.loop-range.invariant.kept c.put_range.ensures.kept;
}

pub returns-clause-ok : goal.returns-clause-ok
returns-clause-ok c = print_over range_tokens c.args.ranges.now c.loop-range.range-index _ _ c.loop-range-test.false c.loop-range.invariant.told
