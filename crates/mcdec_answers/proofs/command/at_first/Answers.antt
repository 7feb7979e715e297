use Rattle.mcdec_answers.proofs.Givens.{at-first}
use Rattle.mcdec_answers.proofs.command.at_first.Goals as goal

pub returns : goal.returns
returns c = at-first c.args.mark c.args.text.now c.split_once.result c.split_once.ensures.cases c.requires
