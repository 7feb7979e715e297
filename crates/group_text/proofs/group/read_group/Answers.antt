use Rattle.std.proofs.Common.{Some, map, List as Items}
use Rattle.tailrec_lang.specs.declared.group.Def.{Def}
use Rattle.tailrec_lang.specs.declared.group.Group.{Group}
use Rattle.tailrec_lang.specs.Tree.{def_tree, group_tree}
use Rattle.group_text.specs.inner.Heads.{head_of}
use Rattle.group_text.specs.Version.{version_of}
use Rattle.group_text.specs.inner.GroupRows.{Named, behind_first}
use Rattle.group_text.proofs.BodyJoins.{passed-on}
use Rattle.group_text.proofs.GroupJoins.{group-first, group-second, group-ok}
use Rattle.group_text.proofs.group.read_group.Goals as goal

pub returns-in_err-name-clause-gives : goal.returns-in_err-name-clause-gives
returns-in_err-name-clause-gives g c = passed-on (λ (x : Group). Some (group_tree x)) c.in_err-name.field-0.0 c.from_residual.result _ _ (behind_first (version_of c.args.version) (Named c.args.name)) c.from_residual.ensures.1
    (group-first (version_of c.args.version) c.args.name _ _ head_of (λ (x : Group). Some (group_tree x)) c.in_err-name.field-0.0 c.in_err-name.ensures.gives)

pub returns-in_err-defs-clause-gives : goal.returns-in_err-defs-clause-gives
returns-in_err-defs-clause-gives g c = passed-on (λ (x : Group). Some (group_tree x)) c.in_err-defs.field-0.0 c.from_residual-in_err-defs.result _ _ (behind_first (version_of c.args.version) (Named c.args.name)) c.from_residual-in_err-defs.ensures.1
    (group-second (version_of c.args.version) c.args.name _ _ (λ (defs : Items Def). map def_tree defs) (λ (x : Group). Some (group_tree x)) c.in_err-defs.field-0.0 _ (head_of c.in_ok-name.field-0) c.in_ok-name.ensures.gives c.in_err-defs.ensures.gives)

pub returns-clause-gives : goal.returns-clause-gives
returns-clause-gives g c = group-ok (version_of c.args.version) c.args.name _ _ _ (head_of c.in_ok-name.field-0) (map def_tree c.in_ok-defs.defs) c.in_ok-name.ensures.gives c.in_ok-defs.ensures.gives
