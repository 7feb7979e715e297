use Rattle.code_parts.proofs.OneAnswer.{no_cause}
use Rattle.code_parts.proofs.OneCause.{one_cause}
use Rattle.code_parts.proofs.call_laws.law_of_one_answer.Goals as goal

pub returns : goal.returns
returns c = record { one_cause = one_cause; functions_or_cause = no_cause }
