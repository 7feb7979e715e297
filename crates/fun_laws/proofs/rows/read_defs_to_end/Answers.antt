use Rattle.std.proofs.Common.{codes, map, List as Items}
use Rattle.tailrec_lang.specs.declared.group.Def.{Def}
use Rattle.tailrec_lang.specs.Tree.{def_tree}
use Rattle.group_text.specs.inner.Reading.{mark_row, own_defs}
use Rattle.group_text.proofs.Joins.{ok-with}
use Rattle.group_text.proofs.BodyJoins.{pair-first, pair-second, passed-on}
use Rattle.group_text.proofs.RowLawsOf.{mark-row}
use Rattle.fun_laws.specs.inner.Reading.{defs_to_end}
use Rattle.fun_laws.specs.inner.Views.{defs_view}
use Rattle.fun_laws.proofs.rows.read_defs_to_end.Goals as goal

pub returns-in_err-defs : goal.returns-in_err-defs
returns-in_err-defs g c = passed-on defs_view c.in_err-defs.field-0.0 c.from_residual.result _ _ defs_to_end c.from_residual.ensures.1
    (pair-first (λ (defs : Items Def). map def_tree defs) defs_view c.in_err-defs.field-0.0 _ _ own_defs (mark_row (codes "end")) c.in_err-defs.ensures.gives)

pub returns-in_err-next_row : goal.returns-in_err-next_row
returns-in_err-next_row g c = passed-on defs_view c.in_err-next_row.field-0.0 c.from_residual-in_err-next_row.result _ _ defs_to_end c.from_residual-in_err-next_row.ensures.1
    (pair-second {B = Unit {0}} (λ _. (tt, tt)) defs_view c.in_err-next_row.field-0.0 _ _ _ own_defs (mark_row (codes "end")) (map def_tree c.in_ok-defs.defs) c.in_ok-defs.ensures.gives (c.in_err-next_row.ensures.gives (mark-row (codes "end"))))

pub returns : goal.returns
returns g c = ok-with own_defs (λ _. mark_row (codes "end")) _ _ (map def_tree c.in_ok-defs.defs) (tt, tt) _ c.in_ok-defs.ensures.gives (c.in_ok-next_row.ensures.gives (mark-row (codes "end")))
