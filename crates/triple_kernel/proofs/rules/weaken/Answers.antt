use Rattle.triple_kernel.proofs.RuleLemmas.{valid_weakened}
use Rattle.triple_kernel.proofs.rules.weaken.Goals as goal

pub concludes-requires : goal.concludes-requires
concludes-requires c = valid_weakened _ _ _ (c.is_weakened.ensures.0 c.if-is_weakened.true) c.triple.ensures.valid
