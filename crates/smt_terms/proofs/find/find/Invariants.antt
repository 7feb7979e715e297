use Rattle.std.proofs.Common.{◌≤◌, length}
use Rattle.smt_terms.proofs.Finding.{NotBehind}
use Rattle.smt_terms.proofs.find.find.Given as goal

abbrev pub invariant-back : goal.invariant-back
invariant-back l = record {
  within : l.left ≤ length l.funs;
  told : NotBehind l.funs l.name l.left;
}

abbrev pub decreases-back : goal.decreases-back
decreases-back l = l.left
