use Rattle.std.proofs.Common.{sym, ◌∙◌}
use Rattle.std.proofs.lemmas.Bool.{eqb-true, eqb-false}
use Rattle.group_text.proofs.Claims.{bytes-left, tail-left}
use Rattle.group_text.proofs.lines.is_end.Goals as goal

pub returns-then-is_empty-clause-more : goal.returns-then-is_empty-clause-more
returns-then-is_empty-clause-more c = λ e. tail-left c.args.rest.now c.args.tail.now (eqb-true _ _ (sym c.is_empty.ensures ∙ c.if-is_empty.true)) (eqb-false _ _ (sym c.is_empty-then-is_empty.ensures ∙ e))

pub returns-else-is_empty-clause-more : goal.returns-else-is_empty-clause-more
returns-else-is_empty-clause-more c = λ e. bytes-left c.args.rest.now c.args.tail.now (eqb-false _ _ (sym c.is_empty.ensures ∙ c.if-is_empty.false))
