use Rattle.checker.proofs.trees.+trees.Given as goal

abbrev pub decreases-word_from : goal.decreases-word_from
decreases-word_from g l = l.k

abbrev pub decreases-mem_from : goal.decreases-mem_from
decreases-mem_from g l = l.k
