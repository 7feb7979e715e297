use Rattle.std.proofs.Common.{◌≡◌, ◌+◌, drop}
use Rattle.std.specs.List.{sum_by}
use Rattle.tailrec_lang.specs.inner.Walk.{needs_passed, needs_skipped}
use Rattle.tailrec_lang.proofs.passed.Passed.needs.Given as goal

abbrev pub invariant-loop-skipped : goal.invariant-loop-skipped
invariant-loop-skipped l = l.count + sum_by needs_skipped (drop l.skipped-index l.all) ≡ needs_passed l.self
