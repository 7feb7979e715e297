use Rattle.frame_compose.proofs.ExchangeLemmas.{valid_exchanged}
use Rattle.frame_compose.proofs.laws.law_of_exchanging.Goals as goal

pub returns : goal.returns
returns c = valid_exchanged
