use Rattle.checker.proofs.BenchLemmas.{added_new}
use Rattle.checker.proofs.laws.law_of_new_terms.Goals as goal

pub returns : goal.returns
returns c = added_new
