use Rattle.std.proofs.Common.{length}
use Rattle.smt_export.proofs.branches.+bound_each.Given as goal

abbrev pub decreases-bound_each : goal.decreases-bound_each
decreases-bound_each l = length l.bodies.now
