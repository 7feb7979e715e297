use Rattle.mc_text.proofs.Items.{reads-item}
use Rattle.group_text.specs.TermLimits.{IsRange}
use Rattle.group_text.specs.TermSpelling.{range_tokens}
use Rattle.group_text.specs.TermReading.{range_at}
use Rattle.group_text.proofs.TermLaws.{range-law}
use Rattle.group_text.proofs.read_terms.read_range.Goals as goal

pub returns-clause-spelled : goal.returns-clause-spelled
returns-clause-spelled c = reads-item (λ r. r) range_at IsRange range_tokens range-law c.range_within.result _ _ c.range_within.ensures.gives
