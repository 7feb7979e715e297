use Rattle.self_test.proofs.FileLemmas.{readable, image}
use Rattle.self_test.proofs.laws.law_of_files.Goals as goal

pub returns-clause-readable : goal.returns-clause-readable
returns-clause-readable c = readable

pub returns-clause-image : goal.returns-clause-image
returns-clause-image c = image
