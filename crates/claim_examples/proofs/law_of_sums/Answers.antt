use Rattle.claim_examples.proofs.Alike.{constants-differ, exchanged}
use Rattle.claim_examples.proofs.law_of_sums.Goals as goal

pub returns-clause-order : goal.returns-clause-order
returns-clause-order c = exchanged

pub returns-clause-constant : goal.returns-clause-constant
returns-clause-constant c = constants-differ
