use Rattle.claim_examples.proofs.StoreLemmas.{store-starts, keeps-starts}
use Rattle.claim_examples.proofs.law_of_regions.Goals as goal

pub returns-clause-stores : goal.returns-clause-stores
returns-clause-stores c = store-starts

pub returns-clause-keeps : goal.returns-clause-keeps
returns-clause-keeps c = keeps-starts
