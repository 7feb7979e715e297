use Rattle.rv_machine.proofs.EvenLemmas.{step-even}
use Rattle.rv_machine.proofs.StateLemmas.{run-state, step-state}
use Rattle.rv_machine.proofs.laws.law_of_states.Goals as goal

pub returns-clause-step : goal.returns-clause-step
returns-clause-step c = step-state

pub returns-clause-even : goal.returns-clause-even
returns-clause-even c = step-even

pub returns-clause-run : goal.returns-clause-run
returns-clause-run c = run-state
