use Rattle.triple_kernel.proofs.ValidLemmas.{valid_finite}
use Rattle.triple_kernel.proofs.laws.law_of_validity.Goals as goal

pub returns : goal.returns
returns c = valid_finite
