use Rattle.triple_kernel.proofs.PutInLemmas.{valid_inst}
use Rattle.triple_kernel.proofs.rules.inst.Goals as goal

pub concludes-requires : goal.concludes-requires
concludes-requires c = valid_inst _ _ _ _ (c.is_inst.ensures.0 c.if-is_inst.true) c.triple.ensures.valid
