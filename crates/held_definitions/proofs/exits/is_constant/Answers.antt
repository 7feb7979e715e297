use Rattle.std.proofs.Common.{sym, ◌∙◌}
use Rattle.term_arena.proofs.TreeLemmas.{number_within}
use Rattle.held_definitions.proofs.ExitLemmas.{constant_some, constant_none}
use Rattle.held_definitions.proofs.exits.is_constant.Goals as goal

pub node-requires : goal.node-requires
node-requires g c = number_within c.args.arena.now c.args.word _ c.requires

pub returns-in-Some-clause-answer : goal.returns-in-Some-clause-answer
returns-in-Some-clause-answer g c = constant_some c.args.arena.now c.args.word c.node.result c.in-Some.m c.args.n _ c.requires c.node.ensures.tree (sym c.constant_in.ensures ∙ c.in-Some.is) c.is_equal.ensures

pub returns-in-None-clause-answer : goal.returns-in-None-clause-answer
returns-in-None-clause-answer g c = (
  λ e. absurd (cc),
  λ x. absurd (constant_none c.args.arena.now c.args.word c.node.result c.args.n c.requires c.node.ensures.tree (sym c.constant_in.ensures ∙ c.in-None.is) x),
)
