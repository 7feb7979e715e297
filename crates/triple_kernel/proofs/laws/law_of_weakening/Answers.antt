use Rattle.triple_kernel.proofs.RuleLemmas.{valid_weakened}
use Rattle.triple_kernel.proofs.laws.law_of_weakening.Goals as goal

pub returns : goal.returns
returns c = valid_weakened
