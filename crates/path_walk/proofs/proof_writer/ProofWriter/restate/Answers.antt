use Rattle.std.proofs.Common.{inr}
use Rattle.path_walk.proofs.proof_writer.ProofWriter.restate.Goals as goal

pub returns-clause-restated : goal.returns-clause-restated
returns-clause-restated c = inr (c.in_ok-number.ensures.log, c.in_ok-number.ensures.number)
