use Rattle.tailrec_lang.proofs.Turns.{ending-enter, ending-below, ending-exited, ending-need_false}
use Rattle.tailrec_lang.proofs.Fitting.{exited-fits}
use Rattle.tailrec_lang.proofs.laws.law_of_turns.Goals as goal

pub returns : goal.returns
returns c = record {
  enters = ending-enter;
  falls = ending-below;
  fits = λ g d x turns exit results left well e. exited-fits g d x turns exit results left well e;
  exited = ending-exited;
  need_false = ending-need_false;
}
