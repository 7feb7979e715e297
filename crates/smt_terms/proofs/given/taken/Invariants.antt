use Rattle.smt_terms.proofs.Taking.{TakenTo}
use Rattle.smt_terms.proofs.given.taken.Given as goal

abbrev pub invariant-loop-i : goal.invariant-loop-i
invariant-loop-i l = TakenTo l.params l.inputs l.i l.args
