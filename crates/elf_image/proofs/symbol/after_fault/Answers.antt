use Rattle.std.proofs.Common.{sym, ◌∙◌, arith}
use Rattle.std.specs.Prelude.{Err}
use Rattle.elf_image.proofs.ValueLemmas.{first_value, again_two, lower_value, higher_value}
use Rattle.elf_image.proofs.symbol.after_fault.Goals as goal

pub returns-in-NoSuch : goal.returns-in-NoSuch
returns-in-NoSuch c = λ vs e. sym (first_value vs c.args.value (sym e ∙ (λ j. Err (c.in-NoSuch.is j))))

pub returns-then-value-least : goal.returns-then-value-least
returns-then-value-least c =
    let w = c.in-Ambiguous in
    λ vs e. sym (again_two vs w.least w.next c.args.value (sym e ∙ (λ j. Err (w.is j))) c.if-value-least.true)

pub returns-then-value-least-2 : goal.returns-then-value-least-2
returns-then-value-least-2 c =
    let w = c.in-Ambiguous in
    λ vs e. sym (lower_value vs w.least w.next c.args.value (sym e ∙ (λ j. Err (w.is j))) c.if-value-least-2.true)

pub returns-else-value-least-2 : goal.returns-else-value-least-2
returns-else-value-least-2 c =
    let w = c.in-Ambiguous in
    λ vs e. sym (higher_value vs w.least w.next c.args.value _ (sym e ∙ (λ j. Err (w.is j))) (omega arith) c.min.ensures)
