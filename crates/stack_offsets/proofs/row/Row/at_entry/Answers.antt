use Rattle.stack_offsets.proofs.RowLemmas.{entry_row}
use Rattle.stack_offsets.proofs.row.Row.at_entry.Goals as goal

pub returns : goal.returns
returns c r = entry_row r
