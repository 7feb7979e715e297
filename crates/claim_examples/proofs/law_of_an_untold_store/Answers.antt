use Rattle.claim_examples.proofs.StoreLemmas.{quiet-refuted}
use Rattle.claim_examples.proofs.law_of_an_untold_store.Goals as goal

pub returns : goal.returns
returns c = quiet-refuted
