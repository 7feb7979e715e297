use Rattle.claim_examples.proofs.StoreLemmas.{keeps-refuted}
use Rattle.claim_examples.proofs.law_of_a_kept_region.Goals as goal

pub returns : goal.returns
returns c = keeps-refuted
