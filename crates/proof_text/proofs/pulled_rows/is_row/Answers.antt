use Rattle.proof_text.proofs.Pulled.{row_by_last, tail_by_last}
use Rattle.proof_text.proofs.pulled_rows.is_row.Goals as goal

pub returns-clause-row : goal.returns-clause-row
returns-clause-row c = λ e. row_by_last c.args.bytes.now c.requires.some c.requires.alone e

pub returns-clause-tail : goal.returns-clause-tail
returns-clause-tail c = λ e. tail_by_last c.args.bytes.now c.requires.some c.requires.alone e
