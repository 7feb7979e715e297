use Rattle.path_walk.proofs.blocks.+is_touched.Given as goal

abbrev pub decreases-is_touched : goal.decreases-is_touched
decreases-is_touched l = l.more
