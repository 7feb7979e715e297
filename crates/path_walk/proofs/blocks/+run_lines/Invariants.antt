use Rattle.path_walk.proofs.blocks.+run_lines.Given as goal

abbrev pub decreases-run_lines : goal.decreases-run_lines
decreases-run_lines l = l.more
