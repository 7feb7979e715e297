use Rattle.std.proofs.Common.{arith}
use Rattle.mc_text.proofs.Numbers.{number-spelled}
use Rattle.mc_text.proofs.number.dec.Goals as goal

pub returns-clause-spelled : goal.returns-clause-spelled
returns-clause-spelled c = number-spelled 10 c.args.atom.now c.number_of.result (omega arith) (omega arith) c.number_of.ensures
