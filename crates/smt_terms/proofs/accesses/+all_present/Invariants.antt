use Rattle.smt_terms.proofs.accesses.+all_present.Given as goal

abbrev pub decreases-all_present : goal.decreases-all_present
decreases-all_present l = l.n
