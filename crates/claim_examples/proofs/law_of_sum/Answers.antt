use Rattle.claim_examples.proofs.SumLemmas.{sum-starts, sum-done, sum-ends}
use Rattle.claim_examples.proofs.law_of_sum.Goals as goal

pub returns-clause-starts : goal.returns-clause-starts
returns-clause-starts c = sum-starts

pub returns-clause-done : goal.returns-clause-done
returns-clause-done c = sum-done

pub returns-clause-ends : goal.returns-clause-ends
returns-clause-ends c = sum-ends
