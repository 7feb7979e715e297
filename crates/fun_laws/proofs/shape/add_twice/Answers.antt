-- The letters.
use Rattle.word_terms.specs.Tree.{word_tree}
use Rattle.fun_laws.proofs.Given.{add_twice_given}
use Rattle.fun_laws.proofs.shape.add_twice.Goals as goal

pub returns-in-Some-const_of-clause-some : goal.returns-in-Some-const_of-clause-some
returns-in-Some-const_of-clause-some c = add_twice_given (word_tree c.args.t.now) (word_tree c.in-Some.sum.now) (word_tree c.in-Some.last.now) c.in-Some-const_of.d c.added_again.result c.in-Some.ensures.some c.in-Some-const_of.ensures.some c.added_again.ensures.some
