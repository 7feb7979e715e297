use Rattle.std.proofs.Common.{length}
use Rattle.smt_export.proofs.body_terms.+steps_around.Given as goal

abbrev pub decreases-steps_around : goal.decreases-steps_around
decreases-steps_around l = length l.steps.now
