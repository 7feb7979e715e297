use Rattle.std.proofs.Common.{ap}
use Rattle.mcdec_answers.specs.Printed.{range_line}
use Rattle.mcdec_answers.proofs.Prints.{prints-as, prints-exit, items-more, items-broken}
use Rattle.mcdec_answers.proofs.print.put_ranges.Goals as goal

pub returns-in_err-put_range : goal.returns-in_err-put_range
returns-in_err-put_range g c =
    prints-exit _ c.in_err-put_range.field-0.0 _ _ _ _ _ c.from_residual.ensures.1
    (items-broken (range_line c.args.memory) c.args.ranges.now c.loop-range.range-index c.range-item.result c.loop-range-test.true _ _ _ _ _ _ c.loop-range.invariant c.in_err-put_range.field-0.0
    (prints-as _ _ _ _ _ _ _ (ap (range_line c.args.memory) c.range-item.is) c.in_err-put_range.ensures))

pub loop-range-preserved : goal.loop-range-preserved
loop-range-preserved g c =
    items-more (range_line c.args.memory) c.args.ranges.now c.loop-range.range-index c.range-item.result c.loop-range-test.true _ _ _ _ _ _ c.loop-range.invariant
    (prints-as _ _ _ _ _ _ _ (ap (range_line c.args.memory) c.range-item.is) c.in_ok-put_range.ensures)
