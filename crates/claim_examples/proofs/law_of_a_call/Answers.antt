use Rattle.claim_examples.proofs.Calls.{call-returned}
use Rattle.claim_examples.proofs.law_of_a_call.Goals as goal

pub returns : goal.returns
returns c = call-returned
