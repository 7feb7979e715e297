use Rattle.std.proofs.Common.{arith}
use Rattle.held_definitions.proofs.exits.is_exit_of.Goals as goal

pub returns-in-Some-clause-steps : goal.returns-in-Some-clause-steps
returns-in-Some-clause-steps g c ts has = let le = c.is_exit_triple.ensures.steps.some ts has in omega (arith, le)

pub returns-in-None-clause-steps : goal.returns-in-None-clause-steps
returns-in-None-clause-steps g c ts has = omega arith
