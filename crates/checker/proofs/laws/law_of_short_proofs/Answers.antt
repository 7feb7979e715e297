use Rattle.checker.proofs.ShortVerdicts.{full_accepted, short_right}
use Rattle.checker.proofs.laws.law_of_short_proofs.Goals as goal

pub returns-clause-full : goal.returns-clause-full
returns-clause-full c = full_accepted

pub returns-clause-right : goal.returns-clause-right
returns-clause-right c = short_right
