use Rattle.std.proofs.Common.{length}
use Rattle.smt_export.proofs.body_terms.+scope_after.Given as goal

abbrev pub decreases-scope_after : goal.decreases-scope_after
decreases-scope_after l = length l.steps.now
