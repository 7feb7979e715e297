use Rattle.tailrec_lang.proofs.Turns.{eval-more, eval-more_false}
use Rattle.tailrec_lang.proofs.laws.law_of_more_turns.Goals as goal

pub returns : goal.returns
returns c = record { done = eval-more; side_false = eval-more_false }
