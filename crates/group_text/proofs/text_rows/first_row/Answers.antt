use Rattle.group_text.proofs.RowAt.{row-to, no-row-first}
use Rattle.group_text.proofs.text_rows.first_row.Goals as goal

pub returns-in-Some : goal.returns-in-Some
returns-in-Some c = row-to c.args.bytes.now c.split_at.result.0.now c.in-Some.end c.in-Some.ensures.0.high c.in-Some.ensures.0.before c.in-Some.ensures.1 c.split_at.ensures.front

pub returns-in-None : goal.returns-in-None
returns-in-None c = no-row-first c.args.bytes.now c.split_at-in-None.result.0.now c.requires c.in-None.ensures c.split_at-in-None.ensures.front
