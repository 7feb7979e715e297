use Rattle.mc_text.proofs.FaultOnce.{bad-once}
use Rattle.proof_text.specs.Proofs.{texts_of_proofs}
use Rattle.group_text.specs.declared.version.Version.TheVariants.{One}
use Rattle.proof_text.proofs.ProofTexts.{proofs-once}
use Rattle.proof_text.proofs.WholeLaws.{lines_known}
use Rattle.proof_text.proofs.laws.law_of_proof_texts.Goals as goal

pub returns-clause-once : goal.returns-clause-once
returns-clause-once c = proofs-once (lines_known One)

pub returns-clause-faults : goal.returns-clause-faults
returns-clause-faults c = bad-once texts_of_proofs
