use Rattle.std.proofs.Common.{◌∙◌, ◌++◌, codes, ap}
use Rattle.std.specs.Fmt.{decimal}
use Rattle.mc_text.specs.Number.{hex}
use Rattle.mcdec_answers.specs.Printed.{done_word, listed_line}
use Rattle.mcdec_answers.proofs.Prints.{listed-text, prints-as}
use Rattle.mcdec_answers.proofs.print.put_listed.Goals as goal

pub returns : goal.returns
returns g c =
    let l = c.args.listed.now in
    prints-as _ _ _ _ _ _ _
    (listed-text c.done_word.result.now c.as_slice.result.now (hex l.entry) (decimal c.from.result) (decimal l.defs)
    ∙ ap (λ word. word ++ c.as_slice.result.now ++ codes " " ++ hex l.entry ++ codes " " ++ decimal c.from.result ++ codes " " ++ decimal l.defs ++ codes "\n") c.done_word.ensures
    ∙ (λ i. listed_line c.args.form (record { name = c.as_slice.ensures i; entry = l.entry; reached = c.from.ensures i; defs = l.defs }))) c.put_all.ensures
