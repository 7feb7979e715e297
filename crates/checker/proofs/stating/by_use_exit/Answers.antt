use Rattle.std.proofs.Common.{arith}
use Rattle.checker.proofs.stating.by_use_exit.Goals as goal

pub returns-then-not-is_closed-clause-steps : goal.returns-then-not-is_closed-clause-steps
returns-then-not-is_closed-clause-steps g c = λ ts has. omega arith
