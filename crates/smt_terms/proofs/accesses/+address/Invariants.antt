use Rattle.smt_terms.proofs.accesses.+address.Given as goal

abbrev pub decreases-address : goal.decreases-address
decreases-address l = l.k
