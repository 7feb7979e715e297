use Rattle.frame_compose.proofs.ExchangeLemmas.{valid_exchanged}
use Rattle.frame_compose.proofs.exchanging.exchange.Goals as goal

pub concludes-requires : goal.concludes-requires
concludes-requires c = valid_exchanged _ _ _ (c.is_exchanged.ensures.0 c.if-is_exchanged.true) c.triple.ensures.valid
