use Rattle.proof_v2.proofs.AcceptedTexts.{accepted-alike, groups-alike, still-accepted}
use Rattle.proof_v2.proofs.text_laws.law_of_migrated_texts.Goals as goal

pub returns-clause-accepted : goal.returns-clause-accepted
returns-clause-accepted c = still-accepted

pub returns-clause-counted : goal.returns-clause-counted
returns-clause-counted c file text more functions lines m = accepted-alike file text more m functions lines

pub returns-clause-groups : goal.returns-clause-groups
returns-clause-groups c = groups-alike
