use Rattle.std.proofs.Common.{length}
use Rattle.smt_export.proofs.results.+let_words.Given as goal

abbrev pub decreases-let_words : goal.decreases-let_words
decreases-let_words l = length l.told.now
