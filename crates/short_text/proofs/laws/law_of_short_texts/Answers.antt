use Rattle.mc_text.proofs.FaultOnce.{bad-once}
use Rattle.proof_text.proofs.Fronts.{text-front, fronts, front-read, few-read}
use Rattle.proof_text.proofs.ProofTexts.{proofs-once}
use Rattle.short_text.specs.ShortProofs.{short_texts}
use Rattle.short_text.proofs.ReadLaws.{shorts_known}
use Rattle.short_text.proofs.laws.law_of_short_texts.Goals as goal

pub returns-clause-once : goal.returns-clause-once
returns-clause-once c = proofs-once shorts_known

pub returns-clause-faults : goal.returns-clause-faults
returns-clause-faults c = bad-once short_texts

pub returns-clause-read : goal.returns-clause-read
returns-clause-read c = text-front shorts_known

pub returns-clause-alike : goal.returns-clause-alike
returns-clause-alike c = fronts shorts_known

pub returns-clause-fewer : goal.returns-clause-fewer
returns-clause-fewer c = front-read shorts_known

pub returns-clause-few : goal.returns-clause-few
returns-clause-few c = few-read shorts_known
