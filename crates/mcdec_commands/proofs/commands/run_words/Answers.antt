use Rattle.mcdec_commands.proofs.Exactness.{exact-given, headline-given}
use Rattle.mcdec_answers.specs.Command.{texts}
use Rattle.mcdec_commands.proofs.Leaving.{written-given}
use Rattle.mcdec_commands.proofs.Carrying.{CarriesClaims, rewritten-given}
use Rattle.mcdec_commands.proofs.commands.run_words.Goals as goal

pub returns-clause-exact : goal.returns-clause-exact
returns-clause-exact g c = exact-given (g.S.Shelf.contents c.args.shelf.now) (texts c.args.words.now) _ _ _ _ _ _ _ c.answer_words-answer.ensures.gives c.deliver.ensures.delivered

pub returns-clause-headline : goal.returns-clause-headline
returns-clause-headline g c = headline-given (g.S.Shelf.contents c.args.shelf.now) (texts c.args.words.now) _ _ _ _ _ _ _ c.answer_words-answer.ensures.gives c.deliver.ensures.delivered

pub returns-clause-written : goal.returns-clause-written
returns-clause-written g c = written-given (texts c.args.words.now) _ _ _ _ _ c.deliver.ensures.delivered _ _ c.answer_words-answer.ensures.written

pub returns-clause-rewritten : goal.returns-clause-rewritten
returns-clause-rewritten g c =
    let law : CarriesClaims = record {
      right = c.law_of_rewritten_functions.ensures.right;
      exact = c.law_of_rewritten_functions.ensures.exact;
      linked = c.law_of_rewritten_functions.ensures.linked;
      split = c.law_of_rewritten_functions.ensures.split;
    } in
    rewritten-given law (g.S.Shelf.contents c.args.shelf.now) (texts c.args.words.now) _ _ _ _ _ _ _ c.answer_words-answer.ensures.gives c.deliver.ensures.delivered
