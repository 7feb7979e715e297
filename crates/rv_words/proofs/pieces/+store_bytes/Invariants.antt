use Rattle.rv_words.proofs.pieces.+store_bytes.Given as goal

abbrev pub decreases-store_bytes : goal.decreases-store_bytes
decreases-store_bytes l = l.n
