use Rattle.code_gen.proofs.TargetLemmas.{code-stays}
use Rattle.code_gen.proofs.laws.law_of_targets.Goals as goal

pub returns : goal.returns
returns c = code-stays
