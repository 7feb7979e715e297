use Rattle.rv_machine.proofs.RunLemmas.{ends-once, run-joined, run-none, run-one, run-parted}
use Rattle.rv_machine.proofs.laws.law_of_runs.Goals as goal

pub returns-clause-none : goal.returns-clause-none
returns-clause-none c = run-none

pub returns-clause-one : goal.returns-clause-one
returns-clause-one c = run-one

pub returns-clause-joined : goal.returns-clause-joined
returns-clause-joined c = run-joined

pub returns-clause-parted : goal.returns-clause-parted
returns-clause-parted c = run-parted

pub returns-clause-one_end : goal.returns-clause-one_end
returns-clause-one_end c = ends-once
