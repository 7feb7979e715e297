use Rattle.std.proofs.Common.{◌≡◌}
use Rattle.smt_export.specs.Told.{words_from}
use Rattle.smt_export.proofs.results.words_from.Given as goal

abbrev pub invariant-loop-i : goal.invariant-loop-i
invariant-loop-i l = l.list ≡ words_from 0 l.i
