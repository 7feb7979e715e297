use Rattle.std.proofs.Common.{List as Items}
use Rattle.mc_text.specs.Reading.{Reader}
use Rattle.tailrec_lang.specs.Tree.{DefTree}
use Rattle.group_text.specs.inner.Heads.{head_of}
use Rattle.group_text.specs.inner.Reading.{Head}
use Rattle.group_text.specs.Version.{version_of}
use Rattle.group_text.specs.inner.GroupRows.{more_head}
use Rattle.group_text.proofs.BodyJoins.{both-ok, err-first, passed-on}
use Rattle.fun_laws.specs.Spelling.{cert_tree}
use Rattle.fun_laws.specs.inner.Reading.{Rest, behind_head, behind_name, cert_of}
use Rattle.fun_laws.specs.inner.Views.{behind_view, name_view}
use Rattle.fun_laws.proofs.rows.read_behind_name.Goals as goal

abbrev behind : Head → Reader (Items DefTree × Rest)
behind _ = behind_head

pub returns-in_err-name : goal.returns-in_err-name
returns-in_err-name g c = passed-on cert_tree c.in_err-name.field-0.0 c.from_residual.result _ _ (behind_name (version_of c.args.version) (name_view c.args.name)) c.from_residual.ensures.1
    (err-first head_of cert_tree cert_of c.in_err-name.field-0.0 _ _ (more_head (version_of c.args.version) c.args.name) behind c.in_err-name.ensures.gives)

pub returns : goal.returns
returns g c = both-ok cert_of _ _ _ (more_head (version_of c.args.version) c.args.name) behind (head_of c.in_ok-name.field-0) (behind_view (c.in_ok-defs.defs, (c.in_ok-defs.steps, c.in_ok-defs.result))) c.in_ok-name.ensures.gives c.in_ok-defs.ensures
