use Rattle.verdicts.proofs.SoundLemmas.{accepted-right}
use Rattle.verdicts.proofs.laws.law_of_proofs.Goals as goal

pub returns : goal.returns
returns c = accepted-right
