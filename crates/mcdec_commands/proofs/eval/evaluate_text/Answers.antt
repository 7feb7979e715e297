use Rattle.mcdec_commands.proofs.Answers.{found-fits, found-gives}
use Rattle.mcdec_commands.proofs.eval.evaluate_text.Goals as goal

pub evaluate_group-requires-clause-group : goal.evaluate_group-requires-clause-group
evaluate_group-requires-clause-group c = (found-fits c.args.text.now c.args.e.now.name.now c.in-Ok.g c.in-Ok.ensures).0

pub evaluate_group-requires-clause-well_formed : goal.evaluate_group-requires-clause-well_formed
evaluate_group-requires-clause-well_formed c = (found-fits c.args.text.now c.args.e.now.name.now c.in-Ok.g c.in-Ok.ensures).1

pub returns-in-Ok : goal.returns-in-Ok
returns-in-Ok c args are h =
    found-gives c.args.text.now c.args.e.now.name.now c.args.e.now.turns args c.requires.within c.in-Ok.g c.in-Ok.ensures c.evaluate_group.result (c.evaluate_group.ensures args h)
