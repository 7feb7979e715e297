use Rattle.std.proofs.Common.{◌≡◌, drop}
use Rattle.mc_shelf.specs.Plan.{kept_at}
use Rattle.mc_shelf.proofs.plan.Plan.kept.Given as goal

abbrev pub invariant-loop-call : goal.invariant-loop-call
invariant-loop-call l = kept_at l.self.failures l.self.calls ≡ kept_at (drop l.call-index l.self.failures) l.self.calls
