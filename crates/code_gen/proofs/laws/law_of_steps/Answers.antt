use Rattle.code_gen.proofs.StepLemmas.{drawn-steps}
use Rattle.code_gen.proofs.laws.law_of_steps.Goals as goal

pub returns : goal.returns
returns c = drawn-steps
