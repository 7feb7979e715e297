use Rattle.smt_terms.proofs.accesses.+after_store.Given as goal

abbrev pub decreases-after_store : goal.decreases-after_store
decreases-after_store l = l.n
