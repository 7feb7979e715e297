use Rattle.stack_split.specs.inner.Accesses.{AreFound}
use Rattle.stack_split.proofs.functions.stack_addresses.Given as goal

abbrev pub invariant-loop-n : goal.invariant-loop-n
invariant-loop-n l = AreFound l.graph.addrs l.is_access l.n l.second
