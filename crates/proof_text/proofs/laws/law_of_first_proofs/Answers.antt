use Rattle.group_text.specs.declared.version.Version.TheVariants.{One}
use Rattle.proof_text.proofs.Fronts.{fronts, front-read, few-read}
use Rattle.proof_text.proofs.WholeLaws.{lines_known}
use Rattle.proof_text.proofs.laws.law_of_first_proofs.Goals as goal

pub returns-clause-alike : goal.returns-clause-alike
returns-clause-alike c = fronts (lines_known One)

pub returns-clause-fewer : goal.returns-clause-fewer
returns-clause-fewer c = front-read (lines_known One)

pub returns-clause-few : goal.returns-clause-few
returns-clause-few c = few-read (lines_known One)
