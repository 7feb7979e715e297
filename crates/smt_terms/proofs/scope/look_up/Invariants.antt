use Rattle.std.proofs.Common.{◌≤◌, length}
use Rattle.smt_terms.proofs.Scopes.{NotBound}
use Rattle.smt_terms.proofs.scope.look_up.Given as goal

abbrev pub invariant-back : goal.invariant-back
invariant-back l = record {
  within : l.left ≤ length l.scope;
  told : NotBound l.scope l.name l.left;
}

abbrev pub decreases-back : goal.decreases-back
decreases-back l = l.left
