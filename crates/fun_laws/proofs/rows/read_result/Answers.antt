use Rattle.std.proofs.Common.{codes, map, List as Items}
use Rattle.mc_text.specs.Reading.{Reader}
use Rattle.tailrec_lang.specs.declared.group.Def.{Def}
use Rattle.tailrec_lang.specs.Tree.{DefTree, def_tree}
use Rattle.group_text.specs.inner.Reading.{mark_row}
use Rattle.group_text.proofs.BodyJoins.{both-ok, err-first, err-second, passed-on}
use Rattle.group_text.proofs.RowLawsOf.{mark-row}
use Rattle.fun_laws.specs.inner.Reading.{Mark, defs_to_end, result_at}
use Rattle.fun_laws.specs.inner.Views.{defs_view}
use Rattle.fun_laws.proofs.rows.read_result.Goals as goal

abbrev view : Items Def → Items DefTree
view defs = map def_tree defs

abbrev make : Mark × (Items DefTree × Mark) → Items DefTree
make x = x.1.0

abbrev behind : Mark → Reader (Items DefTree × Mark)
behind _ = defs_to_end

pub returns-in_err-next_row : goal.returns-in_err-next_row
returns-in_err-next_row g c = passed-on view c.in_err-next_row.field-0.0 c.from_residual.result _ _ result_at c.from_residual.ensures.1
    (err-first {A = Unit {0}} (λ _. (tt, tt)) view make c.in_err-next_row.field-0.0 _ _ (mark_row (codes "result")) behind (c.in_err-next_row.ensures.gives (mark-row (codes "result"))))

pub returns-in_err-defs : goal.returns-in_err-defs
returns-in_err-defs g c = passed-on view c.in_err-defs.field-0.0 c.from_residual-in_err-defs.result _ _ result_at c.from_residual-in_err-defs.ensures.1
    (err-second defs_view view make c.in_err-defs.field-0.0 _ _ _ (mark_row (codes "result")) behind (tt, tt) (c.in_ok-next_row.ensures.gives (mark-row (codes "result"))) c.in_err-defs.ensures)

pub returns : goal.returns
returns g c = both-ok make _ _ _ (mark_row (codes "result")) behind (tt, tt) (defs_view c.in_ok-defs.defs) (c.in_ok-next_row.ensures.gives (mark-row (codes "result"))) c.in_ok-defs.ensures
