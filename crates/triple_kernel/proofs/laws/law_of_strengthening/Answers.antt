use Rattle.triple_kernel.proofs.RuleLemmas.{valid_strengthened}
use Rattle.triple_kernel.proofs.laws.law_of_strengthening.Goals as goal

pub returns : goal.returns
returns c = valid_strengthened
