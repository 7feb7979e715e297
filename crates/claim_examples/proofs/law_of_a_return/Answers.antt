use Rattle.claim_examples.proofs.Returns.{sum-returned}
use Rattle.claim_examples.proofs.law_of_a_return.Goals as goal

pub returns : goal.returns
returns c = sum-returned
