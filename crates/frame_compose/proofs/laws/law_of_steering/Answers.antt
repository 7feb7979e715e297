use Rattle.frame_compose.proofs.SteerLemmas.{valid_steered}
use Rattle.frame_compose.proofs.laws.law_of_steering.Goals as goal

pub returns : goal.returns
returns c = valid_steered
