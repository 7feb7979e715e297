use Rattle.claim_examples.proofs.SumLemmas.{narrow-refuted}
use Rattle.claim_examples.proofs.law_of_an_unlisted_register.Goals as goal

pub returns : goal.returns
returns c = narrow-refuted
