use Rattle.sep_assert.proofs.Unions.{union-makes_up}
use Rattle.sep_assert.proofs.laws.law_of_unions.Goals as goal

pub returns-clause-makes_up : goal.returns-clause-makes_up
returns-clause-makes_up c = union-makes_up
