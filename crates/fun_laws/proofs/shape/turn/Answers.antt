-- The letters.
use Rattle.word_terms.specs.Tree.{word_tree}
use Rattle.fun_laws.proofs.Given.{turn_given}
use Rattle.fun_laws.proofs.shape.turn.Goals as goal

pub returns-in-Some-const_of-clause-some : goal.returns-in-Some-const_of-clause-some
returns-in-Some-const_of-clause-some c = turn_given (word_tree c.args.t.now) (word_tree c.in-Some.a.now) (word_tree c.in-Some.b.now) c.in-Some-const_of.c c.added_to.result c.in-Some.ensures.some c.in-Some-const_of.ensures.some c.added_to.ensures.some
