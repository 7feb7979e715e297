use Rattle.checker.proofs.OneLine.{one_line}
use Rattle.checker.proofs.laws.law_of_one_full_line.Goals as goal

pub returns : goal.returns
returns c = one_line
