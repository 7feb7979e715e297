use Rattle.verdicts.proofs.RegionLemmas.{function-right-over}
use Rattle.verdicts.proofs.laws.law_of_regions.Goals as goal

pub returns : goal.returns
returns c = function-right-over
