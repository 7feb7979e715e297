use Rattle.triple_kernel.proofs.Reaching.{reaches-none, reaches-on}
use Rattle.triple_kernel.proofs.laws.law_of_reaching.Goals as goal

pub returns : goal.returns
returns c = record { none = reaches-none; further = reaches-on }
