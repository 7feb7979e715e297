use Rattle.rv_machine.specs.State.{state_of}
use Rattle.rv_machine.proofs.StuckLemmas.{stuck-step}
use Rattle.rv_machine.proofs.state.State.step.Goals as goal

pub returns-in_err-found-clause-exactly : goal.returns-in_err-found-clause-exactly
returns-in_err-found-clause-exactly c = stuck-step (state_of c.args.self.now)

pub returns-clause-exactly : goal.returns-clause-exactly
returns-clause-exactly c = stuck-step (state_of c.args.self.now)
