use Rattle.mc_text.proofs.Items.{reads-item}
use Rattle.word_terms.specs.Tree.{mem_tree}
use Rattle.group_text.specs.TermLimits.{FitsMem}
use Rattle.group_text.specs.TermSpelling.{mem_tokens}
use Rattle.group_text.specs.TermReading.{mem_at}
use Rattle.group_text.proofs.TermLaws.{mem-law-at}
use Rattle.group_text.proofs.read_terms.read_mem.Goals as goal

pub returns-clause-spelled : goal.returns-clause-spelled
returns-clause-spelled c = reads-item mem_tree (mem_at c.args.room) (FitsMem c.args.room) mem_tokens (mem-law-at c.args.room) c.mem_within.result _ _ c.mem_within.ensures.gives
