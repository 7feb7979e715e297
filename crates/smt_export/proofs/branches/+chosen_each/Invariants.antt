use Rattle.std.proofs.Common.{length}
use Rattle.smt_export.proofs.branches.+chosen_each.Given as goal

abbrev pub decreases-chosen_each : goal.decreases-chosen_each
decreases-chosen_each l = length l.xs.now
