use Rattle.triple_kernel.proofs.MoreCode.{valid_more_code}
use Rattle.triple_kernel.proofs.laws.law_of_more_code.Goals as goal

pub returns : goal.returns
returns c = valid_more_code
