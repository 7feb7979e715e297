use Rattle.mcdec_answers.proofs.NameWords.{unseen}
use Rattle.mcdec_answers.proofs.command.is_new.Goals as goal

pub returns-clause-new : goal.returns-clause-new
returns-clause-new c = unseen c.args.name.now c.args.seen.now.keys c.in_ok-insert.field-0 c.in_ok-insert.ensures.added
