use Rattle.word_terms.specs.Tree.{cond_tree}
use Rattle.tailrec_lang.proofs.Counts.{counted_cond, iff_then}
use Rattle.tailrec_lang.proofs.scope.is_cond_counted.Goals as goal

pub returns : goal.returns
returns c = λ w m counts. iff_then c.is_cond_in_scope.ensures.scope (counted_cond c.args.scope w m counts (cond_tree c.args.c.now) c.is_cond_in_scope.ensures.numbers)
