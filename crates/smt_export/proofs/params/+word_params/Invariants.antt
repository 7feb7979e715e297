use Rattle.smt_export.proofs.params.+word_params.Given as goal

abbrev pub decreases-word_params : goal.decreases-word_params
decreases-word_params l = l.count
