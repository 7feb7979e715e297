use Rattle.smt_terms.proofs.Scopes.{BoundTo}
use Rattle.smt_terms.proofs.scope.scope_of.Given as goal

abbrev pub invariant-loop-i : goal.invariant-loop-i
invariant-loop-i l = BoundTo l.params l.args l.i l.scope
