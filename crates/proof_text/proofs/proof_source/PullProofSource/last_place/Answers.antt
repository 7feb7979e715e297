use Rattle.std.proofs.Common.{◌≡◌}
use Rattle.proof_text.proofs.SourceAnswers.{told_all}
use Rattle.proof_text.proofs.proof_source.PullProofSource.last_place.Goals as goal

pub returns : goal.returns
returns g c e = told_all c.args.self.now (g.S.Shelf.contents e) (λ r. c.place.result ≡ r.place) (λ file. c.place.ensures)
