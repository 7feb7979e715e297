use Rattle.word_terms.specs.Tree.{cond_tree}
use Rattle.fun_laws.specs.inner.Weights.{cond_weight}
use Rattle.fun_laws.proofs.simple.+settle_cond.Given as goal

abbrev pub decreases-settle_cond : goal.decreases-settle_cond
decreases-settle_cond l = cond_weight (cond_tree l.c)
