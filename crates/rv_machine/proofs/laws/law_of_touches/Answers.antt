use Rattle.rv_machine.proofs.StepLemmas.{step-alike, step-present, step-there, step-untouched, step-zero}
use Rattle.rv_machine.proofs.laws.law_of_touches.Goals as goal

pub returns-clause-untouched : goal.returns-clause-untouched
returns-clause-untouched c = step-untouched

pub returns-clause-there : goal.returns-clause-there
returns-clause-there c = step-there

pub returns-clause-present : goal.returns-clause-present
returns-clause-present c = step-present

pub returns-clause-zero : goal.returns-clause-zero
returns-clause-zero c = step-zero

pub returns-clause-alike : goal.returns-clause-alike
returns-clause-alike c = step-alike
