use Rattle.smt_terms.proofs.accesses.+shifted.Given as goal

abbrev pub decreases-shifted : goal.decreases-shifted
decreases-shifted l = l.k
