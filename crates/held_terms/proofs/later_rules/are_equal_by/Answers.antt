use Rattle.held_terms.proofs.GrowthLemmas.{facts_still}
use Rattle.held_terms.proofs.LaterLemmas.{equation_there, has_equation}
use Rattle.held_terms.proofs.later_rules.are_equal_by.Goals as goal

pub has-requires-clause-facts : goal.has-requires-clause-facts
has-requires-clause-facts g c = facts_still c.args.arena.now c.add.new.self c.in_ok-equation.ensures.grows c.args.facts.now c.requires.facts

pub has-requires-clause-fact : goal.has-requires-clause-fact
has-requires-clause-fact g c = equation_there c.args.arena.now c.add.new.self c.in_ok-equation.equation c.args.a c.args.b c.in_ok-equation.ensures.tree

pub returns-clause-answer : goal.returns-clause-answer
returns-clause-answer g c =
    has_equation c.args.arena.now c.add.new.self c.args.facts.now c.in_ok-equation.equation c.args.a c.args.b _ c.in_ok-equation.ensures.grows c.requires.facts c.in_ok-equation.ensures.tree
    c.has.ensures
