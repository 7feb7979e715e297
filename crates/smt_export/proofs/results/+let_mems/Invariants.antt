use Rattle.smt_export.proofs.results.+let_mems.Given as goal

abbrev pub decreases-let_mems : goal.decreases-let_mems
decreases-let_mems l = l.count
