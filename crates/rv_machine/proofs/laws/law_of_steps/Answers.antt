use Rattle.rv_machine.proofs.StepLemmas.{act-is, act-step, instruction_at-is, length_at-is, step-updated, updated-step}
use Rattle.rv_machine.proofs.StuckLemmas.{stuck-step}
use Rattle.rv_machine.proofs.laws.law_of_steps.Goals as goal

pub returns-clause-act : goal.returns-clause-act
returns-clause-act c = act-is

pub returns-clause-step : goal.returns-clause-step
returns-clause-step c = act-step

pub returns-clause-update : goal.returns-clause-update
returns-clause-update c = updated-step

pub returns-clause-instruction : goal.returns-clause-instruction
returns-clause-instruction c = step-updated

pub returns-clause-fetch : goal.returns-clause-fetch
returns-clause-fetch c = instruction_at-is

pub returns-clause-length : goal.returns-clause-length
returns-clause-length c = length_at-is

pub returns-clause-exactly : goal.returns-clause-exactly
returns-clause-exactly c = stuck-step
