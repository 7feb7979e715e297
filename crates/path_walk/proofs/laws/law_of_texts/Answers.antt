use Rattle.path_walk.proofs.Texts.{is-group}
use Rattle.path_walk.proofs.laws.law_of_texts.Goals as goal

pub returns : goal.returns
returns c = λ code e g f parts name ranges graph forest order. is-group code e g f parts graph forest order name ranges
