use Rattle.std.proofs.Common.{arith}
use Rattle.proof_v2.proofs.check.check_linked.Goals as goal

pub returns-clause-headline : goal.returns-clause-headline
returns-clause-headline c = c.check_text.ensures.headline (omega arith)
