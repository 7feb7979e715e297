use Rattle.triple_kernel.proofs.ValidLemmas.{state-exists}
use Rattle.triple_kernel.proofs.laws.law_of_states.Goals as goal

pub returns : goal.returns
returns c = state-exists
