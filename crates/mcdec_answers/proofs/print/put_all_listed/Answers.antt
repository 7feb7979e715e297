use Rattle.std.proofs.Common.{ap}
use Rattle.mcdec_answers.specs.Printed.{listed_line}
use Rattle.mcdec_answers.proofs.Prints.{prints-as, prints-exit, items-more, items-broken}
use Rattle.mcdec_answers.proofs.print.put_all_listed.Goals as goal

pub returns-in_err-put_listed : goal.returns-in_err-put_listed
returns-in_err-put_listed g c =
    prints-exit _ c.in_err-put_listed.field-0.0 _ _ _ _ _ c.from_residual.ensures.1
    (items-broken (listed_line c.args.form) c.args.all.now c.loop-listed.listed-index c.listed-item.result c.loop-listed-test.true _ _ _ _ _ _ c.loop-listed.invariant c.in_err-put_listed.field-0.0
    (prints-as _ _ _ _ _ _ _ (ap (listed_line c.args.form) c.listed-item.is) c.in_err-put_listed.ensures))

pub loop-listed-preserved : goal.loop-listed-preserved
loop-listed-preserved g c =
    items-more (listed_line c.args.form) c.args.all.now c.loop-listed.listed-index c.listed-item.result c.loop-listed-test.true _ _ _ _ _ _ c.loop-listed.invariant
    (prints-as _ _ _ _ _ _ _ (ap (listed_line c.args.form) c.listed-item.is) c.in_ok-put_listed.ensures)
