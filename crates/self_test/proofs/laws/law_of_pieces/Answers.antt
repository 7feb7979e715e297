use Rattle.self_test.proofs.Through.{through}
use Rattle.self_test.proofs.laws.law_of_pieces.Goals as goal

pub returns : goal.returns
returns c = through
