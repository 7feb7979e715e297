use Rattle.triple_kernel.proofs.PutInLemmas.{valid_inst}
use Rattle.triple_kernel.proofs.laws.law_of_inst.Goals as goal

pub returns : goal.returns
returns c = valid_inst
