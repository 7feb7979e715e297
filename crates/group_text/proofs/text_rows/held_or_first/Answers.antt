use Rattle.std.proofs.Common.{sym, ◌∙◌}
use Rattle.std.proofs.lemmas.Bool.{eqb-false}
use Rattle.group_text.proofs.RowAt.{held-first}
use Rattle.group_text.proofs.text_rows.held_or_first.Goals as goal

pub returns-else-is_empty : goal.returns-else-is_empty
returns-else-is_empty c = held-first c.args.held.now c.args.rest.now c.requires.held (eqb-false _ _ (sym c.is_empty.ensures ∙ c.if-is_empty.false))
