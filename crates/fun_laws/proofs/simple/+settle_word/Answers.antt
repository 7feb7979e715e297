use Rattle.std.proofs.Common.{arith}
use Rattle.word_terms.specs.Tree.{word_tree}
use Rattle.fun_laws.specs.inner.Shapes.{given_tree}
use Rattle.fun_laws.proofs.SimpleLemmas.{given_children}
use Rattle.fun_laws.proofs.Weights.{word_lighter}
use Rattle.fun_laws.proofs.simple.+settle_word.Goals as goal

pub settle_word-requires : goal.settle_word-requires
settle_word-requires t c = (
  (let lighter = word_lighter c.in-Some.law (word_tree c.args.t) (given_tree c.in-Some.given) (word_tree c.in_ok-u-in-Some.u) c.in-Some.ensures.some c.in_ok-u-in-Some.ensures in omega (arith, lighter, c.decreases)),
  given_children c.in-Some.law (word_tree c.args.t) (given_tree c.in-Some.given) (word_tree c.in_ok-u-in-Some.u) c.requires c.in-Some.ensures.some c.in_ok-u-in-Some.ensures,
)
