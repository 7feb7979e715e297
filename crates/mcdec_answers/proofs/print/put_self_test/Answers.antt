use Rattle.std.proofs.Common.{◌∙◌}
use Rattle.std.specs.Fmt.{decimal}
use Rattle.mc_text.specs.Number.{hex}
use Rattle.mcdec_answers.specs.Printed.{self_test_line}
use Rattle.mcdec_answers.proofs.Prints.{prints-as, test-text}
use Rattle.mcdec_answers.proofs.print.put_self_test.Goals as goal

pub returns : goal.returns
returns g c =
    let a = c.args.answer.now in
    let o = a.outcome in
    prints-as _ _ _ _ _ _ _
    (test-text (decimal a.number) (decimal c.from.result) (decimal c.from-2.result) (decimal o.defs) (decimal o.steps) (decimal o.turns) (hex o.value)
    ∙ (λ i. self_test_line (record { number = a.number; size = c.from.ensures i; outcome = record { instructions = c.from-2.ensures i; defs = o.defs; steps = o.steps; turns = o.turns; value = o.value } }))) c.put_all.ensures
