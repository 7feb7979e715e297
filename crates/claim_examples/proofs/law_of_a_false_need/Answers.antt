use Rattle.claim_examples.proofs.Returns.{needing-lost, needing-right}
use Rattle.claim_examples.proofs.law_of_a_false_need.Goals as goal

pub returns-clause-right : goal.returns-clause-right
returns-clause-right c = needing-right

pub returns-clause-exact : goal.returns-clause-exact
returns-clause-exact c = needing-lost
