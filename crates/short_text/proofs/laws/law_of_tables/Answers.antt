use Rattle.short_text.proofs.LineParts.{apart, joined, table-joined, lines-joined}
use Rattle.short_text.proofs.laws.law_of_tables.Goals as goal

pub returns-clause-apart : goal.returns-clause-apart
returns-clause-apart c = apart

pub returns-clause-joined : goal.returns-clause-joined
returns-clause-joined c = joined

pub returns-clause-terms : goal.returns-clause-terms
returns-clause-terms c = table-joined

pub returns-clause-lines : goal.returns-clause-lines
returns-clause-lines c = lines-joined
