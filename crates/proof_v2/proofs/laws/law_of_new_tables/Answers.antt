use Rattle.proof_v2.proofs.NewTables.{new-table}
use Rattle.proof_v2.proofs.laws.law_of_new_tables.Goals as goal

pub returns : goal.returns
returns c = new-table
