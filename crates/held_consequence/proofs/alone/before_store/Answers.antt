use Rattle.std.proofs.Common.{sym, ◌∙◌}
use Rattle.term_arena.proofs.TreeLemmas.{number_within}
use Rattle.held_consequence.proofs.AloneLemmas.{some_such, none_such, before_there, before_last}
use Rattle.held_consequence.proofs.alone.before_store.Goals as goal

pub node-n-requires : goal.node-n-requires
node-n-requires g c = number_within c.args.arena.now c.args.m _ c.requires

pub returns-clause-before : goal.returns-clause-before
returns-clause-before g c = some_such _ _ (λ old e. before_there c.args.arena.now c.args.m c.node-n.result old c.node-n.ensures.tree c.node-n.ensures.children c.node-n.ensures.below (sym c.stored_over.ensures ∙ e))

pub returns-clause-last : goal.returns-clause-last
returns-clause-last g c = none_such _ _ (λ e. before_last c.args.arena.now c.args.m c.node-n.result c.requires c.node-n.ensures.tree (sym c.stored_over.ensures ∙ e))

pub returns-clause-steps : goal.returns-clause-steps
returns-clause-steps g c = c.node-n.ensures.steps
