use Rattle.rv_words.proofs.pieces.+has_each.Given as goal

abbrev pub decreases-has_each : goal.decreases-has_each
decreases-has_each l = l.n
