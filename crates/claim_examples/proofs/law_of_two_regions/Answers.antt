use Rattle.claim_examples.proofs.Splits.{split-returned}
use Rattle.claim_examples.proofs.law_of_two_regions.Goals as goal

pub returns : goal.returns
returns c = split-returned
