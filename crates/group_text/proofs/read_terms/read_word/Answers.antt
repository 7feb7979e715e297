use Rattle.mc_text.proofs.Items.{reads-item}
use Rattle.word_terms.specs.Tree.{word_tree}
use Rattle.group_text.specs.TermLimits.{FitsWord}
use Rattle.group_text.specs.TermSpelling.{word_tokens}
use Rattle.group_text.specs.TermReading.{word_at}
use Rattle.group_text.proofs.TermLaws.{word-law-at}
use Rattle.group_text.proofs.read_terms.read_word.Goals as goal

pub returns-clause-spelled : goal.returns-clause-spelled
returns-clause-spelled c = reads-item word_tree (word_at c.args.room) (FitsWord c.args.room) word_tokens (word-law-at c.args.room) c.word_within.result _ _ c.word_within.ensures.gives
