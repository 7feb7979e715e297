use Rattle.std.proofs.Common.{arith}
use Rattle.held_definitions.proofs.exit_triples.exit_held.Goals as goal

pub returns-in_default-clause-steps : goal.returns-in_default-clause-steps
returns-in_default-clause-steps g c = λ ts has. omega arith

pub returns-in_default-get-clause-steps : goal.returns-in_default-get-clause-steps
returns-in_default-get-clause-steps g c = λ ts has. omega arith
