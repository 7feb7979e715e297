use Rattle.checker.proofs.trees.+conds.Given as goal

abbrev pub decreases-cond_from : goal.decreases-cond_from
decreases-cond_from g l = l.k
