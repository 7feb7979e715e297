use Rattle.std.proofs.Common.{length}
use Rattle.word_terms.specs.Tree.{mem_tree}
use Rattle.word_terms.specs.Scope.{MemInScope}
use Rattle.tailrec_lang.proofs.Lists.{all-at}
use Rattle.tailrec_lang.proofs.args.mems_of.Goals as goal

pub memory_of-requires : goal.memory_of-requires
memory_of-requires c =
    all-at mem_tree (λ t. MemInScope t (length c.args.env.now.words.now) (length c.args.env.now.mems.now)) c.args.terms.now c.loop-t.t-index c.t-item.result c.loop-t-test.true c.t-item.is c.requires
