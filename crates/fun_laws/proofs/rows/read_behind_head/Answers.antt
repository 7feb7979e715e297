use Rattle.std.proofs.Common.{map, List as Items}
use Rattle.tailrec_lang.specs.declared.group.Def.{Def}
use Rattle.tailrec_lang.specs.Tree.{def_tree}
use Rattle.group_text.specs.inner.Reading.{own_defs}
use Rattle.group_text.proofs.Joins.{ok-with}
use Rattle.group_text.proofs.BodyJoins.{pair-first, pair-second, passed-on}
use Rattle.fun_laws.specs.inner.Reading.{behind_head, behind_old}
use Rattle.fun_laws.specs.inner.Views.{behind_view, rest_view}
use Rattle.fun_laws.proofs.rows.read_behind_head.Goals as goal

pub returns-in_err-defs : goal.returns-in_err-defs
returns-in_err-defs g c = passed-on behind_view c.in_err-defs.field-0.0 c.from_residual.result _ _ behind_head c.from_residual.ensures.1
    (pair-first (λ (defs : Items Def). map def_tree defs) behind_view c.in_err-defs.field-0.0 _ _ own_defs behind_old c.in_err-defs.ensures.gives)

pub returns-in_err-rest : goal.returns-in_err-rest
returns-in_err-rest g c = passed-on behind_view c.in_err-rest.field-0.0 c.from_residual-in_err-rest.result _ _ behind_head c.from_residual-in_err-rest.ensures.1
    (pair-second rest_view behind_view c.in_err-rest.field-0.0 _ _ _ own_defs behind_old (map def_tree c.in_ok-defs.defs) c.in_ok-defs.ensures.gives c.in_err-rest.ensures)

pub returns : goal.returns
returns g c = ok-with own_defs (λ _. behind_old) _ _ (map def_tree c.in_ok-defs.defs) (rest_view c.in_ok-rest.rest) _ c.in_ok-defs.ensures.gives c.in_ok-rest.ensures
