use Rattle.mc_text.proofs.FaultOnce.{bad-once}
use Rattle.mc_text.proofs.Items.{item-once}
use Rattle.group_text.specs.Version.{version_of}
use Rattle.proof_text.specs.LineLimits.{IsLineIn}
use Rattle.proof_text.specs.LineSpelling.{line_tokens_in}
use Rattle.proof_text.specs.Proofs.{texts_of_proofs_in}
use Rattle.proof_text.specs.LineGrammar.{whole_lines}
use Rattle.proof_text.specs.inner.LineReading.{line_at}
use Rattle.proof_text.proofs.ProofParts.{proof-text-apart, whole-line}
use Rattle.proof_text.proofs.ProofTexts.{proofs-once}
use Rattle.proof_text.proofs.LineLaws.{line-law}
use Rattle.proof_text.proofs.Fronts.{text-front, fronts, front-read, few-read}
use Rattle.proof_text.proofs.WholeLaws.{lines_known}
use Rattle.proof_text.proofs.laws.law_of_versions.Goals as goal

pub returns-clause-parts : goal.returns-clause-parts
returns-clause-parts c = λ v. proof-text-apart whole_lines (version_of v) (whole-line (version_of v))

pub returns-clause-once : goal.returns-clause-once
returns-clause-once c = λ v. proofs-once (lines_known v)

pub returns-clause-faults : goal.returns-clause-faults
returns-clause-faults c = λ v. bad-once (texts_of_proofs_in (version_of v))

pub returns-clause-read : goal.returns-clause-read
returns-clause-read c = λ v. text-front (lines_known v)

pub returns-clause-line : goal.returns-clause-line
returns-clause-line c = λ v g fits l m rest more h k e. item-once (line_at (version_of v) g.code) (IsLineIn (version_of v)) (line_tokens_in (version_of v) g.code) (line-law v g.code (fits.code, fits.bytes)) l m rest more h k e

pub returns-clause-alike : goal.returns-clause-alike
returns-clause-alike c = λ v. fronts (lines_known v)

pub returns-clause-fewer : goal.returns-clause-fewer
returns-clause-fewer c = λ v. front-read (lines_known v)

pub returns-clause-few : goal.returns-clause-few
returns-clause-few c = λ v. few-read (lines_known v)
