use Rattle.mc_text.proofs.FaultOnce.{bad-once}
use Rattle.group_text.specs.Limits.{proof_texts}
use Rattle.group_text.proofs.laws.law_of_faults.Goals as goal

pub returns : goal.returns
returns c = bad-once proof_texts
