use Rattle.mc_text.proofs.Items.{item-once}
use Rattle.proof_text.specs.LineLimits.{IsLine}
use Rattle.proof_text.specs.LineSpelling.{line_tokens}
use Rattle.proof_text.specs.inner.LineReading.{line_at}
use Rattle.group_text.specs.Version.{version_1}
use Rattle.group_text.specs.declared.version.Version.TheVariants.{One}
use Rattle.proof_text.proofs.LineLaws.{line-law}
use Rattle.proof_text.proofs.laws.law_of_one_line.Goals as goal

pub returns : goal.returns
returns c = λ g fits l m rest more h k e. item-once (line_at version_1 g.code) IsLine (line_tokens g.code) (line-law One g.code (fits.code, fits.bytes)) l m rest more h k e
