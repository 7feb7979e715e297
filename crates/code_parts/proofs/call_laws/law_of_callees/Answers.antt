use Rattle.code_parts.proofs.OneAnswer.{callee_before}
use Rattle.code_parts.proofs.call_laws.law_of_callees.Goals as goal

pub returns : goal.returns
returns c = callee_before
