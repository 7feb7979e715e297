use Rattle.std.proofs.Common.{sym}
use Rattle.short_text.proofs.put.put_line_tokens.Goals as goal

pub returns-in-Discharge-clause-ok : goal.returns-in-Discharge-clause-ok
returns-in-Discharge-clause-ok c = rw c.in-Discharge.is (rw (sym c.as_slice-in-Discharge.ensures) c.put_with_facts.ensures.ok)
