use Rattle.word_terms.specs.Tree.{mem_tree}
use Rattle.tailrec_lang.proofs.Counts.{counted_mem, iff_then}
use Rattle.tailrec_lang.proofs.scope.is_mem_counted.Goals as goal

pub returns : goal.returns
returns c = λ w m counts. iff_then c.is_mem_in_scope.ensures.scope (counted_mem c.args.scope w m counts (mem_tree c.args.t.now) c.is_mem_in_scope.ensures.numbers)
