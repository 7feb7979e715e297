use Rattle.std.proofs.Common.{arith}
use Rattle.held_definitions.proofs.exit_triples.word_variable.Goals as goal

pub returns-in_err-number-clause-steps : goal.returns-in_err-number-clause-steps
returns-in_err-number-clause-steps g c = omega arith

pub returns-in_err-k-clause-steps : goal.returns-in_err-k-clause-steps
returns-in_err-k-clause-steps g c = let one = c.add.ensures.steps in omega (arith, one)

pub returns-clause-steps : goal.returns-clause-steps
returns-clause-steps g c = let one = c.add.ensures.steps in omega (arith, one)
