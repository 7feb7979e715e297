use Rattle.tailrec_lang.specs.Tree.{group_tree}
use Rattle.smt_export.proofs.Fits.{end_mems_fit, end_words_fit, steps_fit}
use Rattle.smt_export.proofs.body_terms.end_scope.Goals as goal

pub scope_after-requires-clause-words : goal.scope_after-requires-clause-words
scope_after-requires-clause-words c = steps_fit (group_tree c.args.g.now) c.args.body.now c.as_slice.result.now c.args.scope.words c.as_slice.ensures c.requires.words

pub scope_after-requires-clause-mems : goal.scope_after-requires-clause-mems
scope_after-requires-clause-mems c = steps_fit (group_tree c.args.g.now) c.args.body.now c.as_slice.result.now c.args.scope.mems c.as_slice.ensures c.requires.mems

pub returns-clause-words_fit : goal.returns-clause-words_fit
returns-clause-words_fit c = end_words_fit (group_tree c.args.g.now) c.args.body.now c.as_slice.result.now c.args.scope.words c.scope_after.result.words c.as_slice.ensures c.scope_after.ensures.words c.requires.words

pub returns-clause-mems_fit : goal.returns-clause-mems_fit
returns-clause-mems_fit c = end_mems_fit (group_tree c.args.g.now) c.args.body.now c.as_slice.result.now c.args.scope.mems c.scope_after.result.mems c.as_slice.ensures c.scope_after.ensures.mems c.requires.mems
