use Rattle.std.proofs.Common.{arith}
use Rattle.word_terms.specs.Tree.{cond_tree}
use Rattle.fun_laws.specs.inner.Shapes.{given_cond_tree}
use Rattle.fun_laws.proofs.SimpleLemmas.{given_cond_children}
use Rattle.fun_laws.proofs.Weights.{cond_lighter}
use Rattle.fun_laws.proofs.simple.+settle_cond.Goals as goal

pub settle_cond-requires : goal.settle_cond-requires
settle_cond-requires t c = (
  (let lighter = cond_lighter c.in-Some.law (cond_tree c.args.c) (given_cond_tree c.in-Some.given) (cond_tree c.in_ok-d-in-Some.d) c.in-Some.ensures.some c.in_ok-d-in-Some.ensures in omega (arith, lighter, c.decreases)),
  given_cond_children c.in-Some.law (cond_tree c.args.c) (given_cond_tree c.in-Some.given) (cond_tree c.in_ok-d-in-Some.d) c.requires c.in-Some.ensures.some c.in_ok-d-in-Some.ensures,
)
