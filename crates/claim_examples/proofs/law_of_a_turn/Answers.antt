use Rattle.claim_examples.proofs.Returns.{more-than-one}
use Rattle.claim_examples.proofs.law_of_a_turn.Goals as goal

pub returns : goal.returns
returns c = more-than-one
