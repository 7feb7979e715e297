use Rattle.std.proofs.Common.{◌≡◌, drop}
use Rattle.word_terms.specs.Substitution.{listed}
use Rattle.held_instances.proofs.listing.first_number.Given as goal

abbrev pub invariant-loop-entry : goal.invariant-loop-entry
invariant-loop-entry l = listed l.entries l.i ≡ listed (drop l.entry-index l.entries) l.i
