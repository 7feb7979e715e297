use Rattle.path_walk.proofs.blocks.+block_from.Given as goal

abbrev pub decreases-block_from : goal.decreases-block_from
decreases-block_from l = l.most
