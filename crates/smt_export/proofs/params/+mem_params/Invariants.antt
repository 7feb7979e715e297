use Rattle.smt_export.proofs.params.+mem_params.Given as goal

abbrev pub decreases-mem_params : goal.decreases-mem_params
decreases-mem_params l = l.count
