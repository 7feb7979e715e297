use Rattle.std.proofs.Common.{length}
use Rattle.word_terms.specs.Tree.{word_tree}
use Rattle.word_terms.specs.Scope.{WordInScope}
use Rattle.tailrec_lang.proofs.Lists.{all-at}
use Rattle.tailrec_lang.proofs.args.words_of.Goals as goal

pub value-requires : goal.value-requires
value-requires c =
    all-at word_tree (λ t. WordInScope t (length c.args.env.now.words.now) (length c.args.env.now.mems.now)) c.args.terms.now c.loop-t.t-index c.t-item.result c.loop-t-test.true c.t-item.is c.requires
