use Rattle.smt_terms.proofs.accesses.+loaded_bytes.Given as goal

abbrev pub decreases-loaded_bytes : goal.decreases-loaded_bytes
decreases-loaded_bytes l = l.n
