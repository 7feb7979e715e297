use Rattle.fun_laws.proofs.Steps.{steps_same}
use Rattle.fun_laws.proofs.rewriting_laws.law_of_rewriting.Goals as goal

pub returns : goal.returns
returns c = λ rs g es range are. steps_same rs g es range are
