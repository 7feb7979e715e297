use Rattle.claim_examples.proofs.SumLemmas.{wrong-refuted}
use Rattle.claim_examples.proofs.law_of_a_wrong_result.Goals as goal

pub returns : goal.returns
returns c = wrong-refuted
