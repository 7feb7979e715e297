use Rattle.group_text.specs.Version.{version_of}
use Rattle.group_text.proofs.BodyJoins.{both-ok, err-first, err-second, passed-on}
use Rattle.fun_laws.specs.Spelling.{CertTree, cert_tree}
use Rattle.fun_laws.specs.inner.Reading.{NameRow, behind_name, behind_title, name_row}
use Rattle.fun_laws.specs.inner.Views.{name_view}
use Rattle.fun_laws.proofs.RowLaws.{name-row}
use Rattle.fun_laws.proofs.rows.read_behind_title.Goals as goal

abbrev make : NameRow × CertTree → CertTree
make x = x.1

pub returns-in_err-name : goal.returns-in_err-name
returns-in_err-name g c = passed-on cert_tree c.in_err-name.field-0.0 c.from_residual.result _ _ (behind_title (version_of c.args.version)) c.from_residual.ensures.1
    (err-first name_view cert_tree make c.in_err-name.field-0.0 _ _ name_row (behind_name (version_of c.args.version)) (c.in_err-name.ensures.gives name-row))

pub returns-in_err-cert : goal.returns-in_err-cert
returns-in_err-cert g c = passed-on cert_tree c.in_err-cert.field-0.0 c.from_residual-in_err-cert.result _ _ (behind_title (version_of c.args.version)) c.from_residual-in_err-cert.ensures.1
    (err-second cert_tree cert_tree make c.in_err-cert.field-0.0 _ _ _ name_row (behind_name (version_of c.args.version)) (name_view c.in_ok-name.name) (c.in_ok-name.ensures.gives name-row) c.in_err-cert.ensures)

pub returns : goal.returns
returns g c = both-ok make _ _ _ name_row (behind_name (version_of c.args.version)) (name_view c.in_ok-name.name) (cert_tree c.in_ok-cert.cert) (c.in_ok-name.ensures.gives name-row) c.in_ok-cert.ensures
