use Rattle.checker.proofs.TreesLemmas.{values_steps}
use Rattle.checker.proofs.trees.values_from.Goals as goal

pub returns-in_err-words-clause-steps : goal.returns-in_err-words-clause-steps
returns-in_err-words-clause-steps g c = values_steps c.args.arena.now c.args.values.now _ _ _ _ _ c.as_slice.ensures c.as_slice-2.ensures c.words_from-words.ensures.steps c.mems_from-mems.ensures.steps

pub returns-in_err-mems-clause-steps : goal.returns-in_err-mems-clause-steps
returns-in_err-mems-clause-steps g c = values_steps c.args.arena.now c.args.values.now _ _ _ _ _ c.as_slice.ensures c.as_slice-2.ensures c.words_from-words.ensures.steps c.mems_from-mems.ensures.steps

pub returns-clause-steps : goal.returns-clause-steps
returns-clause-steps g c = values_steps c.args.arena.now c.args.values.now _ _ _ _ _ c.as_slice.ensures c.as_slice-2.ensures c.words_from-words.ensures.steps c.mems_from-mems.ensures.steps
