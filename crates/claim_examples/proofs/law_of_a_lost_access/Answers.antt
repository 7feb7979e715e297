use Rattle.claim_examples.proofs.Splits.{all-in-first-lost}
use Rattle.claim_examples.proofs.law_of_a_lost_access.Goals as goal

pub returns : goal.returns
returns c = all-in-first-lost
