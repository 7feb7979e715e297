use Rattle.mc_text.specs.Reading.{Reader}
use Rattle.group_text.specs.Version.{Version, version_of}
use Rattle.group_text.proofs.BodyJoins.{both-ok, err-first, err-second, passed-on}
use Rattle.fun_laws.specs.Spelling.{CertTree, cert_tree}
use Rattle.fun_laws.specs.inner.Reading.{behind_title, cert_at, title_row}
use Rattle.fun_laws.proofs.RowLaws.{title-row}
use Rattle.fun_laws.proofs.rows.read_rows.Goals as goal

abbrev Title : Type 0
Title = Unit {0} × (Unit {0} × Unit {0})

abbrev make : Title × CertTree → CertTree
make x = x.1

abbrev behind : Version → Title → Reader CertTree
behind v _ = behind_title v

pub returns-in_err-next_row : goal.returns-in_err-next_row
returns-in_err-next_row g c = passed-on cert_tree c.in_err-next_row.field-0.0 c.from_residual.result _ _ (cert_at (version_of c.args.version)) c.from_residual.ensures.1
    (err-first {A = Unit {0}} (λ _. (tt, (tt, tt))) cert_tree make c.in_err-next_row.field-0.0 _ _ title_row (behind (version_of c.args.version)) (c.in_err-next_row.ensures.gives title-row))

pub returns-in_err-cert : goal.returns-in_err-cert
returns-in_err-cert g c = passed-on cert_tree c.in_err-cert.field-0.0 c.from_residual-in_err-cert.result _ _ (cert_at (version_of c.args.version)) c.from_residual-in_err-cert.ensures.1
    (err-second cert_tree cert_tree make c.in_err-cert.field-0.0 _ _ _ title_row (behind (version_of c.args.version)) (tt, (tt, tt)) (c.in_ok-next_row.ensures.gives title-row) c.in_err-cert.ensures)

pub returns : goal.returns
returns g c = both-ok make _ _ _ title_row (behind (version_of c.args.version)) (tt, (tt, tt)) (cert_tree c.in_ok-cert.cert) (c.in_ok-next_row.ensures.gives title-row) c.in_ok-cert.ensures
