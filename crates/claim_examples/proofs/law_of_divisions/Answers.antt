use Rattle.claim_examples.proofs.Told.{signed-not-told, signed-sorts, unsigned-told}
use Rattle.claim_examples.proofs.law_of_divisions.Goals as goal

pub returns-clause-unsigned : goal.returns-clause-unsigned
returns-clause-unsigned c = unsigned-told

pub returns-clause-sorts : goal.returns-clause-sorts
returns-clause-sorts c = signed-sorts

pub returns-clause-signed : goal.returns-clause-signed
returns-clause-signed c = signed-not-told
