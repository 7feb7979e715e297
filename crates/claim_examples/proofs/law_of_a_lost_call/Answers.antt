use Rattle.claim_examples.proofs.Calls.{wrong-call-lost}
use Rattle.claim_examples.proofs.law_of_a_lost_call.Goals as goal

pub returns : goal.returns
returns c = wrong-call-lost
