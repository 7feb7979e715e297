use Rattle.verdicts.proofs.HeadlineLemmas.{function-right}
use Rattle.verdicts.proofs.laws.law_of_exits.Goals as goal

pub returns : goal.returns
returns c = function-right
