use Rattle.std.proofs.Common.{sym, ◌∙◌}
use Rattle.elf_image.proofs.ValueLemmas.{again_one, second_value}
use Rattle.elf_image.proofs.symbol.with_value.Goals as goal

pub returns-then-value-least : goal.returns-then-value-least
returns-then-value-least c = λ vs e. sym (again_one vs c.in-Ok.least c.args.value (sym e ∙ c.in-Ok.is) c.if-value-least.true)

pub returns-else-value-least : goal.returns-else-value-least
returns-else-value-least c = λ vs e. sym (second_value vs c.in-Ok.least c.args.value _ _ (sym e ∙ c.in-Ok.is) c.if-value-least.false c.min.ensures c.max.ensures)
