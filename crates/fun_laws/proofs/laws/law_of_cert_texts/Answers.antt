use Rattle.mc_text.proofs.FaultOnce.{bad-once}
use Rattle.fun_laws.specs.Limits.{cert_texts}
use Rattle.fun_laws.proofs.Whole.{certs-once}
use Rattle.fun_laws.proofs.laws.law_of_cert_texts.Goals as goal

pub returns-clause-once : goal.returns-clause-once
returns-clause-once c = certs-once

pub returns-clause-faults : goal.returns-clause-faults
returns-clause-faults c = bad-once cert_texts
