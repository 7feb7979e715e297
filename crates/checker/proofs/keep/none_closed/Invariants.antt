use Rattle.std.proofs.Common.{◌≡◌, false, replicate}
use Rattle.checker.proofs.keep.none_closed.Given as goal

abbrev pub invariant-loop : goal.invariant-loop
invariant-loop l = l.closed ≡ replicate l.counter false
