use Rattle.triple_kernel.proofs.RuleLemmas.{valid_discharged}
use Rattle.triple_kernel.proofs.rules.discharge.Goals as goal

pub concludes-requires : goal.concludes-requires
concludes-requires c = valid_discharged _ _ _ (c.is_discharged.ensures.0 c.if-is_discharged.true) c.triple.ensures.valid
