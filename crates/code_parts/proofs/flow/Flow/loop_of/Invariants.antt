use Rattle.code_parts.proofs.Contexts.{IsMissing}
use Rattle.code_parts.proofs.flow.Flow.loop_of.Given as goal

abbrev pub invariant-loop-l : goal.invariant-loop-l
invariant-loop-l l = IsMissing l.self.forest.heads l.n l.l
