use Rattle.std.proofs.Common.{length}
use Rattle.smt_export.proofs.branches.+same_count.Given as goal

abbrev pub decreases-same_count : goal.decreases-same_count
decreases-same_count l = length l.xs.now
