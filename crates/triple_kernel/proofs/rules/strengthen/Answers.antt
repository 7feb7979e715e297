use Rattle.triple_kernel.proofs.RuleLemmas.{valid_strengthened}
use Rattle.triple_kernel.proofs.rules.strengthen.Goals as goal

pub concludes-requires : goal.concludes-requires
concludes-requires c = valid_strengthened _ _ _ (c.is_strengthened.ensures.0 c.if-is_strengthened.true) c.triple.ensures.valid
