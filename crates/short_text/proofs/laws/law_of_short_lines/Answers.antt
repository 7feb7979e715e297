use Rattle.mc_text.proofs.Items.{item-once}
use Rattle.short_text.specs.ShortProofs.{table_of, IsNextLine, short_line_tokens}
use Rattle.short_text.specs.inner.ShortReaders.{has_begun, line_behind}
use Rattle.short_text.proofs.ReadLaws.{line-law, short-read}
use Rattle.short_text.proofs.laws.law_of_short_lines.Goals as goal

pub returns-clause-read : goal.returns-clause-read
returns-clause-read c = short-read

pub returns-clause-once : goal.returns-clause-once
returns-clause-once c = λ own fits before are l m rest more h k e.
    item-once (line_behind (has_begun before) (table_of before) own) (IsNextLine before) (short_line_tokens own) (line-law own before are fits) l m rest more h k e
