use Rattle.self_test.proofs.WordLemmas.{program-code, program-memory}
use Rattle.self_test.proofs.laws.law_of_program_files.Goals as goal

pub returns-clause-code : goal.returns-clause-code
returns-clause-code c = program-code

pub returns-clause-memory : goal.returns-clause-memory
returns-clause-memory c = program-memory
