use Rattle.frame_compose.proofs.SteerLemmas.{valid_steered}
use Rattle.frame_compose.proofs.steering.steer.Goals as goal

pub concludes-requires : goal.concludes-requires
concludes-requires c = valid_steered _ _ _ (c.is_steered.ensures.0 c.if-is_steered.true) c.triple.ensures.valid
