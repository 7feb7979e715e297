use Rattle.mc_text.proofs.Items.{reads-item}
use Rattle.word_terms.specs.Tree.{cond_tree}
use Rattle.group_text.specs.TermLimits.{FitsCond}
use Rattle.group_text.specs.TermSpelling.{cond_tokens}
use Rattle.group_text.specs.TermReading.{cond_at}
use Rattle.group_text.proofs.TermLaws.{cond-law-at}
use Rattle.group_text.proofs.read_terms.read_cond.Goals as goal

pub returns-clause-spelled : goal.returns-clause-spelled
returns-clause-spelled c = reads-item cond_tree (cond_at c.args.room) (FitsCond c.args.room) cond_tokens (cond-law-at c.args.room) c.cond_within.result _ _ c.cond_within.ensures.gives
