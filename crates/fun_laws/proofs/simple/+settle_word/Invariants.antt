use Rattle.word_terms.specs.Tree.{word_tree}
use Rattle.fun_laws.specs.inner.Weights.{word_weight}
use Rattle.fun_laws.proofs.simple.+settle_word.Given as goal

abbrev pub decreases-settle_word : goal.decreases-settle_word
decreases-settle_word l = word_weight (word_tree l.t)
