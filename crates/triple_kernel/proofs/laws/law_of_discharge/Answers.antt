use Rattle.triple_kernel.proofs.RuleLemmas.{valid_discharged}
use Rattle.triple_kernel.proofs.laws.law_of_discharge.Goals as goal

pub returns : goal.returns
returns c = valid_discharged
