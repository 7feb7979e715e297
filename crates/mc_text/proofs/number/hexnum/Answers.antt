use Rattle.std.proofs.Common.{ap, ◌∙◌}
use Rattle.mc_text.specs.Number.{number_of}
use Rattle.mc_text.proofs.Numbers.{behind-0x}
use Rattle.mc_text.proofs.number.hexnum.Goals as goal

pub returns-in-Some-clause-spelled : goal.returns-in-Some-clause-spelled
returns-in-Some-clause-spelled c = behind-0x c.args.atom.now c.number_of.result c.in-Some.ensures.0 (c.number_of.ensures ∙ ap (number_of 16) c.in-Some.ensures.1)
