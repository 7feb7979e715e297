use Rattle.group_text.specs.declared.version.Version.TheVariants.{One}
use Rattle.proof_text.proofs.Fronts.{text-front}
use Rattle.proof_text.proofs.ProofTexts.{groups-once}
use Rattle.proof_text.proofs.WholeLaws.{lines_known}
use Rattle.proof_text.proofs.laws.law_of_one_spelling.Goals as goal

pub returns-clause-once : goal.returns-clause-once
returns-clause-once c = groups-once (lines_known One)

pub returns-clause-read : goal.returns-clause-read
returns-clause-read c = text-front (lines_known One)
