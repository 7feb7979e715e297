use Rattle.verdicts.specs.Further.{further_of}
use Rattle.verdicts.proofs.SoundLemmas.{further-keeps, line-sound}
use Rattle.verdicts.proofs.laws.law_of_lines.Goals as goal

pub returns : goal.returns
returns c v g well_formed = line-sound g well_formed (further_of v) (further-keeps v g)
