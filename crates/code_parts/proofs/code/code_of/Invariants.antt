use Rattle.code_parts.specs.inner.Words.{AreCodeTo}
use Rattle.code_parts.proofs.code.code_of.Given as goal

abbrev pub invariant-loop-n : goal.invariant-loop-n
invariant-loop-n l = AreCodeTo l.graph l.n l.code.ranges
