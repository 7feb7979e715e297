use Rattle.std.proofs.Common.{◌≡◌, drop}
use Rattle.word_terms.specs.Substitution.{listed}
use Rattle.triple_kernel.proofs.image.is_word_for.Given as goal

abbrev pub invariant-loop-entry : goal.invariant-loop-entry
invariant-loop-entry l = listed l.s.words l.i ≡ listed (drop l.entry-index l.s.words) l.i
