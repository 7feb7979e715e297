use Rattle.std.proofs.Common.{arith}
use Rattle.held_definitions.proofs.exit_triples.first_word.Goals as goal

pub returns-clause-steps : goal.returns-clause-steps
returns-clause-steps g c = omega arith
