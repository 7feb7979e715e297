use Rattle.word_terms.specs.Tree.{word_tree}
use Rattle.tailrec_lang.proofs.Counts.{counted_word, iff_then}
use Rattle.tailrec_lang.proofs.scope.is_word_counted.Goals as goal

pub returns : goal.returns
returns c = λ w m counts. iff_then c.is_word_in_scope.ensures.scope (counted_word c.args.scope w m counts (word_tree c.args.t.now) c.is_word_in_scope.ensures.numbers)
