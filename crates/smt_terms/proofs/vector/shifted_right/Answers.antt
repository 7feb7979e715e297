use Rattle.std.proofs.Common.{arith}
use Rattle.smt_terms.proofs.Vectors.{shift_out_right}
use Rattle.smt_terms.proofs.vector.shifted_right.Goals as goal

pub returns-else-b-lt128 : goal.returns-else-b-lt128
returns-else-b-lt128 c = shift_out_right c.args.a c.args.b (omega arith) (omega arith)
