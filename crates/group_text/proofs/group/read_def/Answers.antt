use Rattle.std.proofs.Common.{ℕ, List as Items}
use Rattle.tailrec_lang.specs.declared.group.Exit.{Exit}
use Rattle.tailrec_lang.specs.Tree.{body_tree, def_tree}
use Rattle.group_text.specs.inner.Reading.{def_at}
use Rattle.group_text.proofs.BodyJoins.{passed-on}
use Rattle.group_text.proofs.GroupJoins.{DefStart, def-first, def-second, def-ok}
use Rattle.group_text.proofs.RowLawsOf.{def-row}
use Rattle.group_text.proofs.group.read_def.Goals as goal

abbrev start : ℕ × Items Exit → DefStart
start row = (tt, (row.0, (row.1, tt)))

pub returns-in_err-entry-clause-gives : goal.returns-in_err-entry-clause-gives
returns-in_err-entry-clause-gives g c = passed-on def_tree c.in_err-entry.field-0.0 c.from_residual.result _ _ def_at c.from_residual.ensures.1 (def-first _ _ start def_tree c.in_err-entry.field-0.0 (c.in_err-entry.ensures.gives def-row))

pub returns-in_err-body-clause-gives : goal.returns-in_err-body-clause-gives
returns-in_err-body-clause-gives g c = passed-on def_tree c.in_err-body.field-0.0 c.from_residual-in_err-body.result _ _ def_at c.from_residual-in_err-body.ensures.1
    (def-second _ _ body_tree def_tree c.in_err-body.field-0.0 _ (start (c.in_ok-entry.entry, c.in_ok-entry.exits)) (c.in_ok-entry.ensures.gives def-row) c.in_err-body.ensures.gives)

pub returns-clause-gives : goal.returns-clause-gives
returns-clause-gives g c = def-ok _ _ _ (start (c.in_ok-entry.entry, c.in_ok-entry.exits)) (body_tree c.in_ok-body.body) (c.in_ok-entry.ensures.gives def-row) c.in_ok-body.ensures.gives
