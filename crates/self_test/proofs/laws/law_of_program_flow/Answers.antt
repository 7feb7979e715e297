use Rattle.self_test.proofs.Flows.{no-fault, no-forest-fault, no-two-entries}
use Rattle.self_test.proofs.laws.law_of_program_flow.Goals as goal

pub returns-clause-no_fault : goal.returns-clause-no_fault
returns-clause-no_fault c = no-fault

pub returns-clause-no_forest_fault : goal.returns-clause-no_forest_fault
returns-clause-no_forest_fault c = no-forest-fault

pub returns-clause-no_two_entries : goal.returns-clause-no_two_entries
returns-clause-no_two_entries c = no-two-entries
