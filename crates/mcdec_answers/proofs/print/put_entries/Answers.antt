use Rattle.std.proofs.Common.{codes, ◌++◌}
use Rattle.mc_text.specs.Number.{hex}
use Rattle.mcdec_answers.proofs.Prints.{prints-as}
use Rattle.mcdec_answers.proofs.print.put_entries.Goals as goal

pub returns : goal.returns
returns g c = prints-as _ _ _ _ _ _ _ (λ i. codes "two-entries " ++ hex (c.min.ensures i) ++ codes " " ++ hex (c.max.ensures i)) c.put_two.ensures
