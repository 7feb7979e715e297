use Rattle.code_gen.proofs.DrawnLemmas.{drawn-begins, drawn-none}
use Rattle.code_gen.proofs.laws.law_of_draws.Goals as goal

pub returns-clause-none : goal.returns-clause-none
returns-clause-none c = drawn-none

pub returns-clause-some : goal.returns-clause-some
returns-clause-some c = drawn-begins
