use Rattle.std.proofs.Common.{[], sym}
use Rattle.proof_v2.proofs.AnyGiven.{none-given}
use Rattle.proof_v2.proofs.any_reader.AnyReader.of_version.Goals as goal

pub invariant_of-result : goal.invariant_of-result
invariant_of-result c = (sym c.of_version.ensures.version, ([], c.new.ensures, record { order = tt; table = tt; proof = tt }))

pub returns-clause-given : goal.returns-clause-given
returns-clause-given c = none-given c.of_version.result c.new.result c.of_version.ensures.given c.new.ensures
