use Rattle.self_test.proofs.Through.{returns as program_returns}
use Rattle.self_test.proofs.laws.law_of_programs.Goals as goal

pub returns : goal.returns
returns c = program_returns
