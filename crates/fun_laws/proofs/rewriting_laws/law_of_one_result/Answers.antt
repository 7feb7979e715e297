use Rattle.fun_laws.proofs.OneResult.{one_result}
use Rattle.fun_laws.proofs.rewriting_laws.law_of_one_result.Goals as goal

pub returns : goal.returns
returns c = one_result
