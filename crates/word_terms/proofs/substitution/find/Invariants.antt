use Rattle.std.proofs.Common.{◌≡◌, drop}
use Rattle.word_terms.specs.Substitution.{listed}
use Rattle.word_terms.proofs.substitution.find.Given as goal

abbrev pub invariant-loop-entry : goal.invariant-loop-entry
invariant-loop-entry g l = listed l.list l.i ≡ listed (drop l.entry-index l.list) l.i
